use Rattle.std.proofs.Common.{◌≡◌, ◌++◌, take}
use Rattle.xd_state_heads.proofs.heads.add_names.Given as goal

abbrev pub invariant-loop-name : goal.invariant-loop-name
invariant-loop-name g l = l.names.items ≡ l.initial.names.items ++ take l.name-index l.more
