use Rattle.std.proofs.Common.{◌∙◌}
use Rattle.xd_doc.proofs.StoredLemmas.{length-nodes}
use Rattle.xd_doc.proofs.store.Store.len.Goals as goal

pub returns : goal.returns
returns c = c.len.ensures ∙ length-nodes c.self.inside.nodes _ c.self.view_is
