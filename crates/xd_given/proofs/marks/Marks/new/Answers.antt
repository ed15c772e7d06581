use Rattle.std.proofs.Common.{◌∙◌, ap, arith, take_all}
use Rattle.std.proofs.lemmas.List.{get_or_default, length_push}
use Rattle.xd_bind.specs.Projection.{has_track}
use Rattle.xd_given.proofs.BucketLaw.{bucket_more, none_more}
use Rattle.xd_given.proofs.marks.Marks.new.Goals as goal

pub loop-track-preserved : goal.loop-track-preserved
loop-track-preserved c = record {
  sized = c.put_in.ensures.len ∙ c.loop-track.invariant.sized;
  has = λ x kind s n.
      bucket_more c.args.marks.now _ _ c.loop-track.track-index _ x kind s n c.loop-track-test.true (get_or_default c.args.marks.now c.loop-track.track-index _ _ c.loop-track-test.true) (c.in_ok-put_in.ensures.put s n) (c.loop-track.invariant.has x kind s n);
}

pub loop-preserved : goal.loop-preserved
loop-preserved c = record {
  sized = rw c.in_ok-push.ensures.items (omega (arith, length_push c.loop.rows.items c.new.result, c.loop.invariant.sized));
  none = rw c.in_ok-push.ensures.items (none_more c.loop.rows.items c.new.result c.new.ensures.empty c.loop.invariant.none);
}

pub returns : goal.returns
returns c x kind s n = c.loop-track.invariant.has x kind s n ∙ ap (λ ts. has_track ts x kind s n) (take_all c.loop-track.track-index c.args.marks.now (omega arith))
