use Rattle.std.proofs.Common.{take}
use Rattle.std.specs.List.{AllByRecursion}
use Rattle.xd_goals.specs.Rows.{row_at}
use Rattle.xd_heads.specs.Growing.{GrowsTypes}
use Rattle.xd_proof_make.specs.Known.{AreKnown, KeepsKnown}
use Rattle.xd_proof_make.specs.Made.{HasTypes}
use Rattle.xd_proof_make.proofs.goals.learn_goals.Given as goal

abbrev pub invariant-loop-number : goal.invariant-loop-number
invariant-loop-number l = record {
  known : AreKnown l.initial.sound l.cells l.initial.states.items → AreKnown l.sound l.cells l.states.items;
  has : AllByRecursion (λ g. HasTypes l.states.items (row_at l.table.rows g)) (take l.number-index l.goals);
  keeps : KeepsKnown l.initial.states.items l.states.items;
  grows : GrowsTypes l.initial.sound l.sound;
}
