use Rattle.std.proofs.Common.{◌≡◌, drop}
use Rattle.std.specs.List.{list_any}
use Rattle.xd_empty.specs.Parts.{is_marked}
use Rattle.xd_boole.proofs.universal.any_marked.Given as goal

abbrev pub invariant-loop-state : goal.invariant-loop-state
invariant-loop-state l = list_any (is_marked l.marks) l.states ≡ list_any (is_marked l.marks) (drop l.state-index l.states)
