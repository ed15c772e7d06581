use Rattle.std.proofs.Common.{◌≡◌, Bool, true, length}
use Rattle.xd_auto.specs.declared.auto.State.{State}
use Rattle.xd_auto.specs.Automaton.{IsState}
use Rattle.xd_empty.specs.Parts.{is_marked}
use Rattle.xd_given.specs.Alike.{IsAlikeSet, IsIn, marked_count}
use Rattle.xd_given.proofs.alike.alike_states.Given as goal

abbrev pub invariant-loop : goal.invariant-loop
invariant-loop g l = record {
  sized : length l.marks.items ≡ length l.auto';
  kept : (set : State → Bool) → ((s : State) → set s ≡ true → IsState l.auto' s) → IsAlikeSet l.auto' (g.H.Holds.owned l.owner) l.count set → IsIn set (is_marked l.marks.items);
}

abbrev pub decreases-loop : goal.decreases-loop
decreases-loop g l = marked_count l.marks.items
