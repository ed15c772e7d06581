use Rattle.std.proofs.Common.{get_or}
use Rattle.xd_doc.proofs.Lists.{all_there}
use Rattle.xd_syntax.specs.Table.{IsAltPart}
use Rattle.xd_same_types.proofs.AltSteps.{more_alternatives}
use Rattle.xd_same_types.proofs.Ids.{got}
use Rattle.xd_same_types.proofs.Tables.{keeps_then, kept_alt_part}
use Rattle.xd_same_types.proofs.alts.add_alternatives.Goals as goal

pub add_alternative-requires-clause-next : goal.add_alternative-requires-clause-next
add_alternative-requires-clause-next c =
    let items = c.args.more.now in
    let k = c.loop-next.next-index in
    let part = get_or items k (record { at = 0 }) in
    kept_alt_part _ _ c.loop-next.invariant.keeps part (all_there (λ id. IsAltPart c.args.pool.now.types id.at) items k part c.requires.more c.loop-next-test.true (got items k _ c.loop-next-test.true))

pub loop-next-preserved : goal.loop-next-preserved
loop-next-preserved c =
    let inv = c.loop-next.invariant in
    let items = c.args.more.now in
    let k = c.loop-next.next-index in
    record {
      keeps = keeps_then _ _ _ inv.keeps c.add_alternative.ensures.keeps;
      parts = c.in_ok-add_alternative.ensures.parts;
      fits = more_alternatives _ _ _ inv.keeps _ _ _ items k _ c.requires.more c.loop-next-test.true (got items k _ c.loop-next-test.true) inv.fits c.in_ok-add_alternative.ensures.fits;
      had = λ _. c.in_ok-add_alternative.ensures.some;
      has = λ _. c.in_ok-add_alternative.ensures.some;
    }
