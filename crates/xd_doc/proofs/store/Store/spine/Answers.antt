use Rattle.std.proofs.Common.{◌≡◌, Bool, true, false, not, refl, rules}
use Rattle.xd_doc.specs.Document.{has_item}
use Rattle.xd_doc.specs.Stored.{document_at}
use Rattle.xd_doc.proofs.StoredLemmas.{spine_more}
use Rattle.xd_doc.proofs.store.Store.spine.Goals as goal

filled_from : (b h : Bool) → b ≡ not h → b ≡ false → h ≡ true
filled_from b true e f = refl
filled_from b false e f = cc

pub loop-rest-preserved : goal.loop-rest-preserved
loop-rest-preserved c =
    let has : has_item (document_at c.args.self.now c.loop-rest.rest) ≡ true =
    filled_from c.is_empty.result _ (c.is_empty.ensures c.args.self.now c.loop-rest.invariant.left) (search rules) in
    rw c.in_ok-push.ensures.items (spine_more _ _ _ _ _ c.loop-rest.invariant c.next-rest.ensures.belongs c.next-rest.ensures.rest has)
