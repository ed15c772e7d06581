use Rattle.std.proofs.Common.{◌≡◌, ◌++◌, flat_map, drop}
use Rattle.std.specs.List.{AllByRecursion}
use Rattle.xd_syntax.specs.PlacedTable.{placed_at}
use Rattle.xd_syntax.specs.Kept.{TypeDefStands}
use Rattle.xd_syntax.specs.NameFaults.{unknown_types}
use Rattle.xd_syntax.specs.declared.types.TypeDef.{TypeDef}
use Rattle.xd_names.proofs.program.in_type_defs.Given as goal

abbrev pub invariant-loop-def : goal.invariant-loop-def
invariant-loop-def l = record {
  faults : l.faults.items ++ flat_map (λ (t : TypeDef). unknown_types l.known (placed_at l.types t.body.at)) (drop l.def-index l.type_defs)
      ≡ l.initial.faults.items ++ flat_map (λ (t : TypeDef). unknown_types l.known (placed_at l.types t.body.at)) l.type_defs;
  stand : AllByRecursion (TypeDefStands l.types) (drop l.def-index l.type_defs);
}
