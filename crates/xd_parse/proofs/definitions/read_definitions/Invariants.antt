use Rattle.std.proofs.Common.{length}
use Rattle.xd_parse.proofs.DefinitionRows.{Collected, table}
use Rattle.xd_parse.proofs.definitions.read_definitions.Given as goal

abbrev pub invariant-definitions : goal.invariant-definitions
invariant-definitions l = Collected (table l.types l.patterns l.exprs l.type_defs.items l.functions.items) l.fn.cursor l.cursor

abbrev pub decreases-definitions : goal.decreases-definitions
decreases-definitions l = length l.cursor
