use Rattle.std.proofs.Common.{◌≡◌}
use Rattle.xd_proof_check.proofs.atoms.listed.Given as goal

abbrev pub invariant-loop-item : goal.invariant-loop-item
invariant-loop-item g l = l.made.items ≡ l.yielded
