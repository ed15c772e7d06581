use Rattle.std.proofs.Common.{sym, ◌∙◌}
use Rattle.xd_parse_trees.proofs.ClassRows.{any_word_reads}
use Rattle.xd_parse_trees.proofs.classes.read_any_word.Goals as goal

pub returns-clause-reads : goal.returns-clause-reads
returns-clause-reads c = rw (c.step.ensures.left, c.shared_label.ensures.same, c.in_ok-word.ensures.word, c.any_text-text.ensures.text) (any_word_reads c.peek.result c.args.cursor.now c.word_text.result.now (sym c.peek.ensures) (λ e. c.word_text.ensures.word (sym c.peek.ensures ∙ e)))
