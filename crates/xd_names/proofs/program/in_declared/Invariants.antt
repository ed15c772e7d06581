use Rattle.std.proofs.Common.{◌≡◌, ◌++◌, flat_map, drop}
use Rattle.std.specs.List.{AllByRecursion}
use Rattle.xd_syntax.specs.Types.{BelongsTo}
use Rattle.xd_syntax.specs.PlacedTable.{placed_at}
use Rattle.xd_syntax.specs.NameFaults.{unknown_types}
use Rattle.xd_syntax.specs.declared.program.Param.{Param}
use Rattle.xd_names.proofs.program.in_declared.Given as goal

abbrev pub invariant-loop-param : goal.invariant-loop-param
invariant-loop-param l = record {
  faults : l.faults.items ++ flat_map (λ (q : Param). unknown_types l.known (placed_at l.types q.body.at)) (drop l.param-index l.params)
      ≡ l.initial.faults.items ++ flat_map (λ (q : Param). unknown_types l.known (placed_at l.types q.body.at)) l.params;
  belong : AllByRecursion (λ (q : Param). BelongsTo l.types q.body) (drop l.param-index l.params);
}
