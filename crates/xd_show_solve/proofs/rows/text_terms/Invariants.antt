use Rattle.std.proofs.Common.{take}
use Rattle.xd_auto.specs.Automaton.{Automaton}
use Rattle.xd_same_types.specs.Grown.{GrowsTypes}
use Rattle.xd_show_solve.specs.Equations.{TermsStand, products}
use Rattle.xd_show_solve.specs.Levels.{AreTextProducts}
use Rattle.xd_show_solve.proofs.rows.text_terms.Given as goal

abbrev pub invariant-loop-step : goal.invariant-loop-step
invariant-loop-step l = record {
  keeps : GrowsTypes l.fn.pool.types l.pool.types;
  stand : TermsStand l.pool.types l.terms.items;
  products : (a : Automaton) → AreTextProducts a l.places (take l.step-index l.moves) (products l.pool.types l.terms.items);
}
