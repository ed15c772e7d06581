use Rattle.std.proofs.Common.{◌≡◌, ◌++◌, map, drop}
use Rattle.xd_syntax.specs.NameFaults.{duplicates}
use Rattle.xd_names.specs.Spots.{type_spot}
use Rattle.xd_names.proofs.duplicates.in_types.Given as goal

abbrev pub invariant-loop-def : goal.invariant-loop-def
invariant-loop-def l =
    l.faults.items ++ duplicates l.seen (map type_spot (drop l.def-index l.type_defs)) ≡ l.initial.faults.items ++ duplicates l.initial.seen (map type_spot l.type_defs)
