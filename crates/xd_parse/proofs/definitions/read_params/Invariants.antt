use Rattle.std.proofs.Common.{◌≤◌, length, map}
use Rattle.xd_syntax.specs.Table.{KeepsRows}
use Rattle.xd_syntax.specs.Kept.{parameter}
use Rattle.xd_parse_trees.specs.Shallow.{NoDeeper, ParametersWithin}
use Rattle.xd_parse.proofs.DefinitionRows.{Params}
use Rattle.xd_parse.proofs.definitions.read_params.Given as goal

abbrev pub invariant-params : goal.invariant-params
invariant-params l = record {
  read : Params l.types l.fn.cursor l.cursor l.params.items;
  keeps : KeepsRows l.fn.types l.types;
  fewer : length l.cursor ≤ length l.fn.cursor;
  no_deeper : NoDeeper (ParametersWithin (map (parameter l.types) l.params.items)) l.fn.types l.types;
}

abbrev pub decreases-params : goal.decreases-params
decreases-params l = length l.cursor
