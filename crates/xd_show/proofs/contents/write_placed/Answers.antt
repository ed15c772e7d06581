use Rattle.xd_same_types.proofs.Tables.{keeps_then}
use Rattle.xd_show_solve.specs.Levels.{MeansAny}
use Rattle.xd_show.proofs.ContentLaws.{contents_then}
use Rattle.xd_show.proofs.contents.write_placed.Goals as goal

pub loop-number-preserved : goal.loop-number-preserved
loop-number-preserved c = record {
  keeps = keeps_then _ _ _ c.loop-number.invariant.keeps c.write_in_place.ensures.keeps;
  contents = contents_then MeansAny c.args.auto.now c.args.pool.now.types c.loop-number.pool.types c.write_in_place.new.pool.types c.args.written.now.items c.loop-number.written.items c.write_in_place.new.written.items c.loop-number.invariant.contents c.in_ok-write_in_place.ensures.contents;
}
