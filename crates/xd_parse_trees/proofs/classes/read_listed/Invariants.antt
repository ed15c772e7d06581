use Rattle.std.proofs.Common.{length}
use Rattle.xd_grammar.specs.declared.grammar.Nonterminal.TheVariants as n
use Rattle.xd_parse_trees.specs.Values.{names}
use Rattle.xd_parse_trees.proofs.ClassRows.{SoFar}
use Rattle.xd_parse_trees.proofs.classes.read_listed.Given as goal

abbrev pub invariant-words : goal.invariant-words
invariant-words l = SoFar n.MoreNames names l.initial.cursor l.cursor l.initial.names.items l.names.items

abbrev pub decreases-words : goal.decreases-words
decreases-words l = length l.cursor
