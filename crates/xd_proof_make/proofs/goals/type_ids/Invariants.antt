use Rattle.std.proofs.Common.{take}
use Rattle.std.specs.List.{AllZip}
use Rattle.xd_proof_make.specs.Known.{IsIdOf}
use Rattle.xd_proof_make.proofs.goals.type_ids.Given as goal

abbrev pub invariant-loop-state : goal.invariant-loop-state
invariant-loop-state l = AllZip (IsIdOf l.states) l.ids.items (take l.state-index l.wanted)
