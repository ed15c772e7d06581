use Rattle.std.proofs.Common.{subst, IsUtf8}
use Rattle.xd_doc.proofs.TextLemmas.{part_utf8}
use Rattle.xd_doc.proofs.text.Text.as_str.Goals as goal

pub returns-clause-text : goal.returns-clause-text
returns-clause-text c = part_utf8 _ c.args.self.now c.self.inside.start c.self.inside.end (subst (λ b. IsUtf8 b) c.as_str.ensures.value c.as_str.utf8) c.self.invariant c.self.view_is
