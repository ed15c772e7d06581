use Rattle.std.proofs.Common.{◌≡◌, ◌++◌}
use Rattle.xd_proof_check.proofs.heads.push_heads.Given as goal

abbrev pub invariant-loop-head : goal.invariant-loop-head
invariant-loop-head l = l.made.items ≡ l.initial.made.items ++ l.yielded
