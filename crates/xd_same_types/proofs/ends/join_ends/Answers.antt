use Rattle.std.proofs.Common.{[], get_or}
use Rattle.xd_doc.proofs.Lists.{all_there}
use Rattle.xd_syntax.specs.Table.{IsAltPart}
use Rattle.xd_same_types.proofs.AltSteps.{more_alternatives}
use Rattle.xd_same_types.proofs.Ids.{got}
use Rattle.xd_same_types.proofs.Tables.{keeps_then, kept_alt_part}
use Rattle.xd_same_types.proofs.ends.join_ends.Goals as goal

pub add_by_end-requires-clause-next : goal.add_by_end-requires-clause-next
add_by_end-requires-clause-next c =
    let items = c.args.parts.now in
    let k = c.loop-next.next-index in
    let part = get_or items k (record { at = 0 }) in
    kept_alt_part _ _ c.loop-next.invariant.keeps part (all_there (λ id. IsAltPart c.args.pool.now.types id.at) items k part c.requires c.loop-next-test.true (got items k _ c.loop-next-test.true))

pub loop-next-preserved : goal.loop-next-preserved
loop-next-preserved c =
    let inv = c.loop-next.invariant in
    let items = c.args.parts.now in
    let k = c.loop-next.next-index in
    record {
      keeps = keeps_then _ _ _ inv.keeps c.add_by_end.ensures.keeps;
      parts = c.in_ok-add_by_end.ensures.parts;
      fits = more_alternatives _ _ _ inv.keeps [] _ _ items k _ c.requires c.loop-next-test.true (got items k _ c.loop-next-test.true) inv.fits c.in_ok-add_by_end.ensures.fits;
      has = λ _. c.in_ok-add_by_end.ensures.some;
    }
