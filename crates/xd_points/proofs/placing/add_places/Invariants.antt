use Rattle.std.proofs.Common.{◌≡◌, ℕ, ◌<◌, ◌≤◌, length}
use Rattle.xd_auto.specs.Automaton.{Extends}
use Rattle.xd_points.specs.Placing.{ArePlaces, IsBareAt, KeepsPlaces, place_at}
use Rattle.xd_points.proofs.placing.add_places.Given as goal

abbrev pub invariant-loop-number : goal.invariant-loop-number
invariant-loop-number l = record {
  count : length l.places.items ≡ l.number;
  kept : KeepsPlaces l.initial.places.items l.places.items;
  places : ArePlaces l.patterns l.initial.auto' l.auto' l.points l.known (length l.initial.places.items) l.places.items;
  bare : (i : ℕ) → length l.initial.places.items ≤ i → i < length l.places.items → IsBareAt l.auto' l.points i (place_at l.places.items i);
  extends : Extends l.initial.auto' l.auto';
}
