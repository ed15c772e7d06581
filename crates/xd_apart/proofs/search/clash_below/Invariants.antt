use Rattle.xd_auto.specs.Kept.{AreRight}
use Rattle.xd_apart.specs.Search.{IsTakenAt}
use Rattle.xd_apart.proofs.search.clash_below.Given as goal

abbrev pub invariant-loop : goal.invariant-loop
invariant-loop l = record {
  at : IsTakenAt l.approximation.over l.store l.at;
  answers : AreRight l.auto' l.store l.answers;
}
