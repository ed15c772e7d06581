use Rattle.xd_doc.proofs.StoredLemmas.{bare_same, in_vec, reads, first_then-item_before}
use Rattle.xd_doc.proofs.store.Store.first_before.Goals as goal

pub index-node-requires : goal.index-node-requires
index-node-requires c = in_vec c.self.inside.nodes _ _ _ c.self.view_is c.requires.seq c.in-Some.is

pub push_node-requires : goal.push_node-requires
push_node-requires c =
    let r = reads _ _ _ _ _ c.self.invariant c.self.view_is c.requires.seq c.in-Some.is c.index-node.ensures in
    record { bare = bare_same _ _ _ c.in_ok-share.ensures r.linked.bare; item = rw c.in_ok-share.ensures r.linked.item; content = r.linked.content; next = rw c.link.ensures c.requires.next }

pub returns-clause-ok : goal.returns-clause-ok
returns-clause-ok c =
    let r = reads _ _ _ _ _ c.self.invariant c.self.view_is c.requires.seq c.in-Some.is c.index-node.ensures in
    rw (r.document, first_then-item_before, ← c.in_ok-share.ensures, ← c.link.ensures) c.push_node.ensures.ok
