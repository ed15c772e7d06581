use Rattle.std.proofs.Common.{List, ℕ, ap, ◌∙◌}
use Rattle.xd_doc.specs.Classes.{is_named}
use Rattle.xd_rules.specs.Heads.{labels_of, texts_of}
use Rattle.xd_proof_check.specs.Atoms.{kinds_of}
use Rattle.xd_proof_check.proofs.NameLemmas.{both_named}
use Rattle.xd_proof_check.proofs.atoms.named_in.Goals as goal

pub returns : goal.returns
returns c = record {
  labels =
      both_named labels_of c.new-labels.result.keys c.put_labels.new.labels.keys c.put_labels-2.new.labels.keys (kinds_of c.args.left.now) (kinds_of c.args.rights.now) c.new-labels.ensures.empty
      c.in_ok-put_labels.ensures c.in_ok-put_labels-2.ensures c.in_ok-new.field-0.names c.in_ok-new.ensures.valid.sorted
      (λ l. c.in_ok-new.ensures.labels l ∙ ap (λ (xs : List (List ℕ)). is_named xs l) c.in_ok-listed.ensures);
  texts =
      both_named texts_of c.new-texts.result.keys c.put_texts.new.texts.keys c.put_texts-2.new.texts.keys (kinds_of c.args.left.now) (kinds_of c.args.rights.now) c.new-texts.ensures.empty
      c.in_ok-put_texts.ensures c.in_ok-put_texts-2.ensures c.in_ok-new-2.field-0.names c.in_ok-new-2.ensures.valid.sorted
      (λ l. c.in_ok-new-2.ensures.texts l ∙ ap (λ (xs : List (List ℕ)). is_named xs l) c.in_ok-listed-2.ensures);
}
