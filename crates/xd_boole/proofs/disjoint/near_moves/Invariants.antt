use Rattle.std.proofs.Common.{drop}
use Rattle.xd_boole.specs.Refusals.{LeadInside}
use Rattle.xd_boole.proofs.DisjointLemmas.{NearFirst}
use Rattle.xd_boole.proofs.disjoint.near_moves.Given as goal

abbrev pub invariant-loop-step : goal.invariant-loop-step
invariant-loop-step l = record {
  near : NearFirst l.one l.two l.fn.part l.moves l.step-index l.near.items;
  left : LeadInside l.two (drop l.step-index l.moves);
}
