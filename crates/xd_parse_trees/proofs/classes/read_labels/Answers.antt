use Rattle.std.proofs.Common.{sym, ◌∙◌}
use Rattle.xd_parse_trees.proofs.ClassRows.{label_reads, listed_reads}
use Rattle.xd_parse_trees.proofs.classes.read_labels.Goals as goal

pub returns-then-at-clause-reads : goal.returns-then-at-clause-reads
returns-then-at-clause-reads c =
    rw (c.in_ok-label.ensures.left, c.in_ok-push.ensures.items, c.new-names.ensures.items) (label_reads c.args.cursor.now c.in_ok-label.label.word c.in_ok-label.label.place (sym c.at.ensures ∙ c.if-at.true) c.in_ok-label.ensures.word c.in_ok-label.ensures.place)

pub returns-clause-reads : goal.returns-clause-reads
returns-clause-reads c =
    rw c.step.ensures.left (listed_reads c.args.cursor.now c.read_names.new.cursor c.in_ok-labels.labels.place c.in_ok-labels.labels.names.items (sym c.at.ensures ∙ c.if-at.false) c.in_ok-labels.ensures.reads)
