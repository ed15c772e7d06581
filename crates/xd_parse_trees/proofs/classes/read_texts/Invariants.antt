use Rattle.std.proofs.Common.{length}
use Rattle.xd_grammar.specs.declared.grammar.Nonterminal.TheVariants as n
use Rattle.xd_parse_trees.specs.Values.{texts}
use Rattle.xd_parse_trees.proofs.ClassRows.{SoFar}
use Rattle.xd_parse_trees.proofs.classes.read_texts.Given as goal

abbrev pub invariant-more : goal.invariant-more
invariant-more l = SoFar n.MoreTexts texts l.initial.cursor l.cursor l.initial.texts.items l.texts.items

abbrev pub decreases-more : goal.decreases-more
decreases-more l = length l.cursor
