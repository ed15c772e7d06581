use Rattle.std.proofs.Common.{◌≡◌, ◌<◌, length}
use Rattle.xd_auto.specs.declared.auto.State.{State}
use Rattle.xd_empty.specs.Parts.{is_marked}
use Rattle.xd_given.specs.Outline.{can_stop, leaf_free}
use Rattle.xd_given.proofs.free.stops_of.Given as goal

abbrev pub invariant-loop-number : goal.invariant-loop-number
invariant-loop-number g l =
    let b = g.H.Holds.owned l.of.owner.now l.variable in
    record {
      len : length l.stops.items ≡ l.number;
      stops : (s : State) → s.number < l.number → is_marked l.stops.items s ≡ can_stop l.of.patterns.now l.of.table.now (leaf_free l.auto' l.of.table.now b l.known) l.of.drawing.now s;
    }
