use Rattle.std.proofs.Common.{[], ◌∙◌}
use Rattle.std.proofs.Math.Seq.{get_or-append_seam}
use Rattle.xd_doc.specs.Document.{empty}
use Rattle.xd_doc.specs.StoreNodes.{node_document}
use Rattle.xd_doc.proofs.StoredLemmas.{length-nodes, documents-push, AreLinked-push, Keeps-append, BelongsTo-new}
use Rattle.xd_doc.proofs.store.Store.push_node.Goals as goal

pub invariant_of-self-2 : goal.invariant_of-self-2
invariant_of-self-2 c =
    rw c.in_ok-push.ensures.items (AreLinked-push c.self.inside.nodes.items c.args.node c.self.invariant (rw c.self.view_is c.requires))

pub returns-clause-grown : goal.returns-clause-grown
returns-clause-grown c =
    rw (c.in_ok-push.ensures.items, documents-push c.self.inside.nodes.items c.args.node, c.self.view_is)

pub returns-clause-ok : goal.returns-clause-ok
returns-clause-ok c =
    let place = c.len-place.ensures ∙ length-nodes c.self.inside.nodes _ c.self.view_is in
    rw (c.in_ok-push.ensures.items, documents-push c.self.inside.nodes.items c.args.node, c.self.view_is, place) (get_or-append_seam c.args.self.now (node_document c.args.self.now c.args.node) [] empty)

pub returns-clause-belongs : goal.returns-clause-belongs
returns-clause-belongs c =
    let place = c.len-place.ensures ∙ length-nodes c.self.inside.nodes _ c.self.view_is in
    rw (c.in_ok-push.ensures.items, documents-push c.self.inside.nodes.items c.args.node, c.self.view_is, place) (BelongsTo-new _ _ c.requires)

pub returns-clause-keeps : goal.returns-clause-keeps
returns-clause-keeps c =
    rw (c.in_ok-push.ensures.items, documents-push c.self.inside.nodes.items c.args.node, c.self.view_is) (Keeps-append _ _)
