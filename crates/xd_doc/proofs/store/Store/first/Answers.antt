use Rattle.xd_doc.proofs.StoredLemmas.{in_vec, reads, first-item_before}
use Rattle.xd_doc.proofs.store.Store.first.Goals as goal

pub index-requires : goal.index-requires
index-requires c = in_vec c.self.inside.nodes _ _ _ c.self.view_is c.requires c.in-Some.is

pub returns-in-Some : goal.returns-in-Some
returns-in-Some c =
    let r = reads _ _ _ _ _ c.self.invariant c.self.view_is c.requires c.in-Some.is c.index.ensures in
    rw (r.document, first-item_before)
