use Rattle.std.proofs.Common.{sym, ◌∙◌}
use Rattle.xd_parse_trees.proofs.ClassRows.{listed_texts_read, listed_labels_read}
use Rattle.xd_parse_trees.proofs.classes.read_excepted_list.Goals as goal

pub returns-then-at-clause-reads : goal.returns-then-at-clause-reads
returns-then-at-clause-reads c =
    λ s. listed_texts_read s c.args.cursor.now c.read_texts.new.cursor c.step.new.self c.in_ok-texts.texts.items (sym c.at.ensures ∙ c.if-at.true) c.in_ok-texts.ensures.reads c.step.ensures.left

pub returns-clause-reads : goal.returns-clause-reads
returns-clause-reads c =
    λ s to T q. listed_labels_read s c.args.cursor.now c.read_listed.new.cursor c.step-2.new.self c.step-3.new.self to c.in_ok-names.names.items T (sym c.at.ensures ∙ c.if-at.false) c.in_ok-names.ensures.reads c.step-2.ensures.left c.step-3.ensures.left q
