use Rattle.xd_boole.specs.Merging.{AreStandIns, KeepStates}
use Rattle.xd_boole.proofs.merging.see_states.Given as goal

abbrev pub invariant-loop-number : goal.invariant-loop-number
invariant-loop-number l = record {
  stand : AreStandIns l.fn.auto l.same.items;
  kept : KeepStates l.fn.auto l.found;
}
