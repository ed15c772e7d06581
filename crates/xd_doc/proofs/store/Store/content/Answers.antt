use Rattle.xd_doc.proofs.StoredLemmas.{in_vec, reads, content_of-text, content_of-element}
use Rattle.xd_doc.proofs.store.Store.content.Goals as goal

pub index-node-requires : goal.index-node-requires
index-node-requires c = in_vec c.self.inside.nodes _ _ _ c.self.view_is c.requires c.in-Some.is

pub returns-in-Text-clause-inner : goal.returns-in-Text-clause-inner
returns-in-Text-clause-inner c =
    let r = reads _ _ _ _ _ c.self.invariant c.self.view_is c.requires c.in-Some.is c.index-node.ensures in
    rw (c.empty-in-Text.ensures, r.document, content_of-text _ _ _ _ c.in-Text.is)

pub returns-in-Elem-clause-inner : goal.returns-in-Elem-clause-inner
returns-in-Elem-clause-inner c =
    let r = reads _ _ _ _ _ c.self.invariant c.self.view_is c.requires c.in-Some.is c.index-node.ensures in
    rw (c.seq.ensures, r.document, content_of-element _ _ _ _ c.in-Elem.is)

pub returns-in-Elem-clause-belongs : goal.returns-in-Elem-clause-belongs
returns-in-Elem-clause-belongs c = rw c.seq.ensures (reads _ _ _ _ _ c.self.invariant c.self.view_is c.requires c.in-Some.is c.index-node.ensures).linked.content

pub returns-in-Elem-clause-older : goal.returns-in-Elem-clause-older
returns-in-Elem-clause-older c = rw c.seq.ensures (reads _ _ _ _ _ c.self.invariant c.self.view_is c.requires c.in-Some.is c.index-node.ensures).content_older
