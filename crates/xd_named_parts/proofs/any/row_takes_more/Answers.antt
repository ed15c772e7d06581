use Rattle.std.proofs.Common.{get_or, arith}
use Rattle.xd_same_types.proofs.Ids.{got}
use Rattle.xd_named_parts.proofs.AnyLaws.{two_more}
use Rattle.xd_named_parts.proofs.any.row_takes_more.Goals as goal

pub returns : goal.returns
returns c = λ e.
    let rows = c.args.pool.now.types in
    let parts = c.args.parts.now in
    two_more rows parts (get_or parts 0 (record { at = 0 })) (get_or parts 1 (record { at = 0 })) c.if-parts-ne2.false (got parts 0 _ (omega arith)) (got parts 1 _ (omega arith))
    (c.takes_items.ensures.texts c.if-not-takes_items.false) (c.takes_items.ensures.elements c.if-not-takes_items.false) (c.is_any.ensures e)
