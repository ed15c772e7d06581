use Rattle.xd_same_types.specs.Grown.{GrowsTypes}
use Rattle.xd_show_solve.specs.Levels.{MeansAny}
use Rattle.xd_show.specs.Contents.{GrowsContents}
use Rattle.xd_show.proofs.contents.write_placed.Given as goal

abbrev pub invariant-loop-number : goal.invariant-loop-number
invariant-loop-number l = record {
  keeps : GrowsTypes l.fn.pool.types l.pool.types;
  contents : GrowsContents MeansAny l.auto' l.fn.pool.types l.fn.written.items l.pool.types l.written.items;
}
