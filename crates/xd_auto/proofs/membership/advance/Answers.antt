use Rattle.std.proofs.Common.{◌≡◌, Some, sym}
use Rattle.xd_doc.specs.StoreNodes.{first_of_document}
use Rattle.xd_doc.specs.declared.store.Item.TheVariants.{Text, Elem}
use Rattle.xd_auto.specs.Kept.{words_of}
use Rattle.xd_auto.specs.Membership.{from_node, MayWait}
use Rattle.xd_auto.proofs.ProgressLemmas.{text_progress, label_progress}
use Rattle.xd_auto.proofs.membership.advance.Goals as goal

pub returns-in-Some-Text-clause-progress : goal.returns-in-Some-Text-clause-progress
returns-in-Some-Text-clause-progress c =
    let is : first_of_document (from_node c.args.store.now c.args.frame.node) ≡ Some (Text c.in-Some-Text.text) =
    sym (rw (c.in-Some-Text.field-0-is, c.at-seq.ensures.place) at c.in-Some-Text.ensures) in
    text_progress c.args.auto.now c.args.frame.state c.args.frame.tried (from_node c.args.store.now c.args.frame.node) c.in-Some-Text.text
    (MayWait c.args.auto.now (words_of c.args.known.now.rows.items) c.args.frame.node) c.try_texts.result is
    (rw c.at-seq.ensures.place at c.try_texts.ensures)

pub returns-in-Some-Elem-clause-progress : goal.returns-in-Some-Elem-clause-progress
returns-in-Some-Elem-clause-progress c =
    let is : first_of_document (from_node c.args.store.now c.args.frame.node) ≡ Some (Elem c.in-Some-Elem.label) =
    sym (rw (c.in-Some-Elem.field-0-is, c.at-seq.ensures.place) at c.in-Some-Elem.ensures) in
    label_progress c.args.auto.now c.args.frame.state c.args.frame.tried (from_node c.args.store.now c.args.frame.node) c.in-Some-Elem.label
    (MayWait c.args.auto.now (words_of c.args.known.now.rows.items) c.args.frame.node) c.try_labels.result is
    (rw c.at-seq.ensures.place at c.try_labels.ensures)
