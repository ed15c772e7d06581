use Rattle.std.proofs.Common.{◌≡◌}
use Rattle.xd_eval.specs.Values.{AreMet, Stands, fronts_then, place_of_value, value_at, world}
use Rattle.xd_eval.proofs.joins.last_of.Given as goal

-- the fronts that were met, and what follows them
abbrev pub invariant-loop-last : goal.invariant-loop-last
invariant-loop-last l = record {
  stands : Stands (world l.store l.joins) l.last;
  met : AreMet (world l.store l.joins) l.met.items (value_at (world l.store l.joins) l.last);
  value : fronts_then (world l.store l.joins) l.met.items (value_at (world l.store l.joins) l.last) ≡ value_at (world l.store l.joins) l.fn.value;
}

abbrev pub decreases-loop-last : goal.decreases-loop-last
decreases-loop-last l = place_of_value l.last
