use Rattle.std.proofs.Common.{◌≡◌, ◌++◌, take}
use Rattle.xd_syntax.specs.Types.{type_numbers}
use Rattle.xd_rec.specs.Uses.{alternatives}
use Rattle.xd_rec.proofs.uses.push_alternatives.Given as goal

abbrev pub invariant-loop-id : goal.invariant-loop-id
invariant-loop-id l = record { listed : l.parts.items ≡ l.initial.parts.items ++ alternatives l.part (type_numbers (take l.id-index l.ids)) }
