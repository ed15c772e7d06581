use Rattle.std.proofs.Common.{◌≡◌, true, length}
use Rattle.xd_auto.specs.declared.auto.State.{State}
use Rattle.xd_auto.specs.Automaton.{IsState}
use Rattle.xd_bind.specs.Marks.{unmarked}
use Rattle.xd_empty.specs.Parts.{is_marked}
use Rattle.xd_given.specs.Free.{AreSound}
use Rattle.xd_given.specs.Outline.{can_stop, leaf_free}
use Rattle.xd_given.specs.Owning.{point_moves}
use Rattle.xd_given.proofs.free.free_points.Given as goal

abbrev pub invariant-loop : goal.invariant-loop
invariant-loop g l =
    let t = l.of.table.now in
    let b = g.H.Holds.owned l.of.owner.now l.variable in
    let stops = can_stop l.of.patterns.now t (leaf_free l.auto' t b l.known) l.of.drawing.now in
    record {
      sized : length l.marks.items ≡ length l.of.drawing.now;
      stop : (s : State) → IsState l.of.drawing.now s → stops s ≡ true → is_marked l.marks.items s ≡ true;
      sound : AreSound l.of.drawing.now (point_moves t b) stops (is_marked l.marks.items);
    }

abbrev pub decreases-loop : goal.decreases-loop
decreases-loop g l = unmarked l.marks.items
