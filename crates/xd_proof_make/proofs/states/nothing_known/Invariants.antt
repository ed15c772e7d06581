use Rattle.std.proofs.Common.{◌≡◌, length}
use Rattle.xd_heads.specs.CellsView.{CellsView}
use Rattle.xd_syntax.specs.Kept.{ProgramTable}
use Rattle.xd_proof_make.specs.Known.{AreKnown}
use Rattle.xd_proof_make.proofs.states.nothing_known.Given as goal

abbrev pub invariant-loop : goal.invariant-loop
invariant-loop l = record {
  sized : length l.states.items ≡ l.counter;
  known : (p : ProgramTable) (c : CellsView) → AreKnown p c l.states.items;
}
