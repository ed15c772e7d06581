use Rattle.xd_doc.proofs.StoredLemmas.{in_nodes, belongs_at}
use Rattle.xd_doc.proofs.store.Store.at.Goals as goal

pub index-node-requires : goal.index-node-requires
index-node-requires c = in_nodes c.self.inside.nodes _ _ c.self.view_is c.requires

pub returns-clause-belongs : goal.returns-clause-belongs
returns-clause-belongs c = belongs_at c.self.inside.nodes.items _ _ _ c.self.invariant c.self.view_is c.requires c.index-node.ensures
