use Rattle.std.proofs.Common.{arith}
use Rattle.xd_doc.proofs.StoredLemmas.{IsBelow-more, length-nodes}
use Rattle.xd_doc.proofs.store.Store.link.Goals as goal

pub new-requires : goal.new-requires
new-requires c = IsBelow-more _ _ c.args.seq.node (omega (arith, length-nodes c.self.inside.nodes _ c.self.view_is, c.len-len.ensures)) c.requires.place
