use Rattle.std.proofs.Common.{◌++◌, List, ℕ, ap, ◌∙◌}
use Rattle.xd_doc.specs.Document.{canonical_text}
use Rattle.xd_doc.specs.Stored.{document_at}
use Rattle.xd_uses.proofs.values.value_on.Goals as goal

pub returns : goal.returns
returns c =
    let v = document_at c.evaluated.new.store c.in_ok-value.value in
    let done = c.in_ok-value.ensures in
    record {
      input = document_at c.input_of.new.store c.in_ok-input.input;
      value = v;
      spelled = c.in_ok-input.ensures.spelled;
      few = done.1;
      meant = done.2;
      written = c.in_ok-write_document.ensures.ok ∙ ap (λ (xs : List ℕ). xs ++ canonical_text v) c.new-text.ensures.items;
    }
