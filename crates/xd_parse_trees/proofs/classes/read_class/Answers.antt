use Rattle.std.proofs.Common.{◌≡◌, true, false, [], sym, ap, ◌∙◌}
use Rattle.xd_doc.specs.ClassForms.{names_label}
use Rattle.xd_parse_trees.specs.Merged.{class_of}
use Rattle.xd_parse_trees.proofs.ClassRows.{all_labels_reads, these_reads}
use Rattle.xd_parse_trees.proofs.ByteOrder.{class_made}
use Rattle.xd_parse_trees.proofs.classes.read_class.Goals as goal

pub returns-then-at-clause-reads : goal.returns-then-at-clause-reads
returns-then-at-clause-reads c =
    let made : c.in_ok-class.class ≡ class_of true [] = class_made c.in_ok-class.class [] true c.in_ok-class.ensures.valid.sorted (λ l. c.in_ok-class.ensures.labels l ∙ ap (λ ns. names_label ns l) c.new.ensures.items) c.in_ok-class.ensures.except in
    rw (made, c.step-place.ensures.place, c.step.ensures.left, c.step-place.ensures.left) (all_labels_reads c.args.cursor.now (sym c.at.ensures ∙ c.if-at.true))

pub returns-clause-reads : goal.returns-clause-reads
returns-clause-reads c =
    let made : c.in_ok-class-2.class ≡ class_of false c.in_ok-labels.labels.names.items = class_made c.in_ok-class-2.class c.in_ok-labels.labels.names.items false c.in_ok-class-2.ensures.valid.sorted c.in_ok-class-2.ensures.labels c.in_ok-class-2.ensures.except in
    rw made (these_reads c.args.cursor.now c.read_labels.new.cursor c.in_ok-labels.labels.place c.in_ok-labels.labels.names.items (sym c.at.ensures ∙ c.if-at.false) c.in_ok-labels.ensures.reads)
