use Rattle.std.proofs.Common.{◌<◌, length, rules}
use Rattle.xd_read.proofs.StoreItems.{content_in, stored_element}
use Rattle.xd_read.proofs.reader.store_items.Goals as goal

pub elem_node-requires-clause-content : goal.elem_node-requires-clause-content
elem_node-requires-clause-content c =
    let i = c.loop-finished.invariant in
    i.keeps.belongs _ (content_in _ _ _ _ _ _ _ _ _ i c.requires.items (rw c.in-Some-Element.field-0-is at c.in-Some-Element.ensures.items))

pub loop-finished-preserved : goal.loop-finished-preserved
loop-finished-preserved c =
    let i = c.loop-finished.invariant in
    let e = c.in_ok-seq-in-Some-Element.ensures in
    let lt : c.args.start < length c.loop-finished.finished.items = search rules in
    stored_element _ _ _ _ _ _ _ _ _ _ _ i c.requires.items (rw c.in-Some-Element.field-0-is at c.in-Some-Element.ensures.items) lt c.elem_node.ensures.keeps e.belongs e.ok
