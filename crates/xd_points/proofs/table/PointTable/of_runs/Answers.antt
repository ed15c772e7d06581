use Rattle.std.proofs.Common.{length, arith, ap, sym, subst, ◌∙◌}
use Rattle.xd_points.specs.Placing.{AreIn}
use Rattle.xd_points.proofs.TableLemmas.{no_rows, no_states}
use Rattle.xd_points.proofs.table.PointTable.of_runs.Goals as goal

pub returns-clause-table : goal.returns-clause-table
returns-clause-table c a b =
    let p = c.new-points.result in
    let none = ap length c.new-points.ensures.none in
    let rows = c.new-rows.ensures.items in
    let places = c.new-places.ensures.items in
    record {
      expanded = no_rows c.args.first a b p c.new-rows.result.items (c.new-points.ensures.whole a b) c.new-points.ensures.none rows;
      every = ap length rows ∙ sym none;
      known = c.new-known.ensures p.made c.new-store.result;
      count = ap length places ∙ sym none;
      belong = subst (AreIn a) (sym places) (no_states a);
      stands = λ d i lt. absurd (omega (arith, none));
    }
