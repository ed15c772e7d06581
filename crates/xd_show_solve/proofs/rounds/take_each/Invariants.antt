use Rattle.xd_same_types.specs.Grown.{GrowsTypes}
use Rattle.xd_show_solve.specs.Systems.{AllStand}
use Rattle.xd_show_solve.proofs.RoundLaws.{TakesFirst}
use Rattle.xd_show_solve.proofs.rounds.take_each.Given as goal

abbrev pub invariant-loop-number : goal.invariant-loop-number
invariant-loop-number l = record {
  keeps : GrowsTypes l.fn.pool.types l.pool.types;
  stand : AllStand l.pool.types l.sums.items;
  takes : TakesFirst l.fn.pool.types l.pool.types l.owns l.number l.fn.sums.items l.sums.items;
}
