use Rattle.std.proofs.Common.{List, ℕ, subst}
use Rattle.xd_doc.specs.Stored.{document_at}
use Rattle.xd_read.specs.Reading.{BytesSpell}
use Rattle.xd_uses.proofs.values.input_of.Goals as goal

pub returns-clause-spelled : goal.returns-clause-spelled
returns-clause-spelled c = subst (λ (bs : List ℕ). BytesSpell bs (document_at c.read_document.new.store c.in_ok-input.input)) c.as_bytes.ensures.value c.in_ok-input.ensures.ok
