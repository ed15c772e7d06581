use Rattle.xd_doc.proofs.StoredLemmas.{in_vec, reads, rest_of-item_before}
use Rattle.xd_doc.proofs.store.Store.next.Goals as goal

pub index-requires : goal.index-requires
index-requires c = in_vec c.self.inside.nodes _ _ _ c.self.view_is c.requires c.in-Some.is

pub returns-in-Some-clause-rest : goal.returns-in-Some-clause-rest
returns-in-Some-clause-rest c =
    let r = reads _ _ _ _ _ c.self.invariant c.self.view_is c.requires c.in-Some.is c.index.ensures in
    rw (c.seq.ensures, r.document, rest_of-item_before)

pub returns-in-Some-clause-belongs : goal.returns-in-Some-clause-belongs
returns-in-Some-clause-belongs c = rw c.seq.ensures (reads _ _ _ _ _ c.self.invariant c.self.view_is c.requires c.in-Some.is c.index.ensures).linked.next

pub returns-in-Some-clause-older : goal.returns-in-Some-clause-older
returns-in-Some-clause-older c = rw c.seq.ensures (reads _ _ _ _ _ c.self.invariant c.self.view_is c.requires c.in-Some.is c.index.ensures).next_older
