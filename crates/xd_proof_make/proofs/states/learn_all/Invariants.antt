use Rattle.std.proofs.Common.{take}
use Rattle.std.specs.List.{AllByRecursion}
use Rattle.xd_heads.specs.Growing.{GrowsTypes}
use Rattle.xd_proof_make.specs.Known.{AreKnown, HasKnown, KeepsKnown}
use Rattle.xd_proof_make.proofs.states.learn_all.Given as goal

abbrev pub invariant-loop-state : goal.invariant-loop-state
invariant-loop-state l = record {
  known : AreKnown l.initial.sound l.cells l.initial.states.items → AreKnown l.sound l.cells l.states.items;
  has : AllByRecursion (HasKnown l.states.items) (take l.state-index l.wanted);
  keeps : KeepsKnown l.initial.states.items l.states.items;
  grows : GrowsTypes l.initial.sound l.sound;
}
