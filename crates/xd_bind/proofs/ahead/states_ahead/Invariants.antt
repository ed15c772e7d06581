use Rattle.std.proofs.Common.{◌+◌, ◌-◌, ◌≤◌, length}
use Rattle.xd_empty.specs.Parts.{is_marked}
use Rattle.xd_bind.specs.Marks.{unmarked}
use Rattle.xd_bind.specs.Search.{IsSearch}
use Rattle.xd_bind.proofs.ahead.states_ahead.Given as goal

abbrev pub invariant-loop-done : goal.invariant-loop-done
invariant-loop-done g l = record {
  search : IsSearch l.auto' (g.H.Holds.owned l.owner l.variable) l.fn.start (is_marked l.free) l.search.order.items l.search.marks.items l.done;
  within : l.done ≤ length l.search.order.items;
}

abbrev pub decreases-loop-done : goal.decreases-loop-done
decreases-loop-done g l = (length l.search.order.items + unmarked l.search.marks.items) - l.done
