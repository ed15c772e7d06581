use Rattle.std.proofs.Common.{◌<◌, get_or, sym, subst}
use Rattle.xd_syntax.specs.Types.{tree}
use Rattle.xd_same_types.specs.Same.{trees}
use Rattle.xd_same_types.proofs.Ids.{got}
use Rattle.xd_same_types.proofs.Tables.{tree_got, trees_count}
use Rattle.xd_named_parts.proofs.AnyLaws.{alt_more}
use Rattle.xd_named_parts.proofs.any.some_takes_more.Goals as goal

pub returns-then-part_takes_more : goal.returns-then-part_takes_more
returns-then-part_takes_more c = λ _.
    let rows = c.args.pool.now.types in
    let parts = c.args.parts.now in
    let k = c.loop-part.part-index in
    let part = get_or parts k (record { at = 0 }) in
    let l = subst (λ n. k < n) (sym (trees_count rows parts)) c.loop-part-test.true in
    alt_more (trees rows parts) k (tree rows part) l (tree_got rows parts k part c.loop-part-test.true (got parts k _ c.loop-part-test.true)) (c.part_takes_more.ensures c.if-part_takes_more.true)
