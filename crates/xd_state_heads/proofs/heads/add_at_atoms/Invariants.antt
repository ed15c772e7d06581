use Rattle.std.proofs.Common.{◌≡◌, ◌++◌, map, take}
use Rattle.xd_state_heads.specs.Wants.{want_at}
use Rattle.xd_state_heads.proofs.heads.add_at_atoms.Given as goal

abbrev pub invariant-loop-atom : goal.invariant-loop-atom
invariant-loop-atom l = l.cases.items ≡ l.initial.cases.items ++ map (want_at l.head.number l.head.content l.head.rest) (take l.atom-index l.atoms)
