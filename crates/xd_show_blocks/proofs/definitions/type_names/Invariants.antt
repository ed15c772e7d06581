use Rattle.std.proofs.Common.{◌≡◌, map, take}
use Rattle.xd_syntax.specs.declared.types.TypeDef.{TypeDef}
use Rattle.xd_show_blocks.proofs.definitions.type_names.Given as goal

abbrev pub invariant-loop-definition : goal.invariant-loop-definition
invariant-loop-definition l = l.names.items ≡ map (λ (d : TypeDef). d.name) (take l.definition-index l.definition-items)
