-- How points are put into the automaton that has their lefts.
use Rattle.std.proofs.Common.{ℕ, zero, suc, ◌+◌, ◌<◌, ◌≤◌, ◌≡◌, List, [], ◌∷◌, ◌++◌, length, get_or, IfSome, Option, Some, None, inl, inr, refl, length-append, sym, ap, ◌∙◌, subst, arith}
use Rattle.std.specs.List.{list_any}
use Rattle.std.proofs.lemmas.Bool.{cases_eq, cases_lt}
use Rattle.std.proofs.lemmas.List.{get_or_past}
use Rattle.xd_doc.specs.Document.{Document}
use Rattle.xd_doc.specs.declared.store.Seq.{Seq}
use Rattle.xd_auto.specs.declared.auto.State.{State}
use Rattle.xd_auto.specs.Automaton.{Automaton, ChangesOnly, Extends, IsClosed, IsState, StateMoves, moves_at}
use Rattle.xd_auto.proofs.ExtendsLemmas.{keeps}
use Rattle.xd_points.specs.Meaning.{IsPointOf}
use Rattle.xd_points.specs.declared.patterns.PatternStates.{PatternStates}
use Rattle.xd_points.specs.declared.points.Points.{Points}
use Rattle.xd_points.specs.declared.placing.Place.{Place}
use Rattle.xd_points.specs.declared.placing.Place.TheVariants.{Old, New, Nowhere}
use Rattle.xd_points.specs.Placing.{AreIn, ArePlaces, IsBareAt, IsPlaceOf, IsPlaced, KeepsPlaces, PlacesFirst, accepts_at, place_at, state_of}
use Rattle.xd_points.specs.Points.{point_at, state_at}
use Rattle.xd_boole.proofs.ArePointsLemmas.{at_end, at_front, place_cases}

-- a newer state changed
pub extends_changed : (a b c : Automaton) (s : State) → Extends a b → length a ≤ s.number → ChangesOnly s b c → Extends a c
extends_changed a b c s extends new changes = record {
  states = λ t here. let there = extends.states t here in omega (arith, there, changes.states);
  moves = λ t here. changes.others t (λ e. omega arith) ∙ extends.moves t here;
}

pub extends_longer : (a b : Automaton) → Extends a b → length a ≤ length b
extends_longer a b extends = go (length a) refl
  where
    go : (n : ℕ) → length a ≡ n → n ≤ length b
    go zero e = omega arith
    go (suc n) e = let last = extends.states (state_at n) (omega (arith, e)) in omega (arith, last)

module _ (tk : PatternStates) (old mid new : Automaton) (p : Points) (known : List (Option Seq)) (one : Extends old mid) (two : Extends mid new) where
  place_stays : (i : ℕ) (w : Place) → IsPlaceOf tk old mid p known i w → IsPlaceOf tk old new p known i w
  place_stays i (Old s) is = is
  place_stays i (New s) is = (is.0, is.1, two.states s is.2)
  place_stays i Nowhere is = is

  place_newer : (i : ℕ) (w : Place) → IsPlaceOf tk mid new p known i w → IsPlaceOf tk old new p known i w
  place_newer i (Old s) is = is
  place_newer i (New s) is = let longer = extends_longer old mid one in (is.0, omega (arith, longer, is.1), is.2)
  place_newer i Nowhere is = is

  bare_stays : (i : ℕ) (w : Place) → IsPlaceOf tk old mid p known i w → IsBareAt mid p i w → IsBareAt new p i w
  bare_stays i (Old s) is bare = tt
  bare_stays i (New s) is bare = two.moves s is.2 ∙ bare
  bare_stays i Nowhere is bare = tt

  -- one more place
  module _ (base : ℕ) (places after : List Place) (w : Place) (is : after ≡ places ++ w ∷ []) (before : ArePlaces tk old mid p known base places)
      (bare : (i : ℕ) → base ≤ i → i < length places → IsBareAt mid p i (place_at places i)) (there : IsPlaceOf tk mid new p known (length places) w) (bare_there : IsBareAt new p (length places) w) where
    pub more_bare : (i : ℕ) → base ≤ i → i < length after → IsBareAt new p i (place_at after i)
    more_bare i from lt = elim (place_cases places after w i is lt) [
      | inl h ↦ subst (IsBareAt new p i) (sym (at_front places after w Nowhere i is h)) (bare_stays i (place_at places i) (before.each i from h) (bare i from h))
      | inr e ↦ subst (IsBareAt new p i) (sym (at_end places after w Nowhere i is e)) (subst (λ (k : ℕ). IsBareAt new p k w) (sym e) bare_there)
    ]

    pub more_places : ArePlaces tk old new p known base after
    more_places = record {
      each = λ i from lt. elim (place_cases places after w i is lt) [
        | inl h ↦ subst (IsPlaceOf tk old new p known i) (sym (at_front places after w Nowhere i is h)) (place_stays i (place_at places i) (before.each i from h))
        | inr e ↦ subst (IsPlaceOf tk old new p known i) (sym (at_end places after w Nowhere i is e)) (subst (λ (k : ℕ). IsPlaceOf tk old new p known k w) (sym e) (place_newer (length places) w there))
      ];
      rises = λ i k s t from less lt at_i at_k. elim (place_cases places after w k is lt) [
        | inl h ↦ before.rises i k s t from less h (sym (at_front places after w Nowhere i is (omega arith)) ∙ at_i) (sym (at_front places after w Nowhere k is h) ∙ at_k)
        | inr e ↦
            let first = subst (IsPlaceOf tk old mid p known i) (sym (at_front places after w Nowhere i is (omega arith)) ∙ at_i) (before.each i from (omega arith)) in
            let last = subst (IsPlaceOf tk mid new p known (length places)) (sym (at_end places after w Nowhere k is e) ∙ at_k) there in
            omega (arith, first.2, last.1)
      ];
    }

pub places_none : (tk : PatternStates) (a : Automaton) (p : Points) (known : List (Option Seq)) (places : List Place) → ArePlaces tk a a p known (length places) places
places_none tk a p known places = record { each = λ i from lt. absurd (omega arith); rises = λ i k s t from less lt at_i at_k. absurd (omega arith) }

pub keeps_none : (places : List Place) → KeepsPlaces places places
keeps_none places = record { longer = omega arith; same = λ i lt. refl }

-- the places that there were stay where one more is put after them
pub keeps_more : (start places after : List Place) (w : Place) → after ≡ places ++ w ∷ [] → KeepsPlaces start places → KeepsPlaces start after
keeps_more start places after w is kept = record {
  longer = let e = ap length is in omega (arith, kept.longer, e, length-append places (w ∷ []));
  same = λ i lt. at_front places after w Nowhere i is (omega (arith, lt, kept.longer)) ∙ kept.same i lt;
}

-- the states at the places belong to the automaton
pub places_in : (a : Automaton) (tk : PatternStates) (new : Automaton) (p : Points) (known : List (Option Seq)) (base : ℕ) (places : List Place) → ((i : ℕ) → i < length places → IsPointOf a tk (point_at p.points.items i)) → Extends a new
    → ((i : ℕ) → i < base → IfSome (state_of (place_at places i)) (IsState new)) → ((i : ℕ) → base ≤ i → i < length places → IsPlaceOf tk a new p known i (place_at places i)) → AreIn new places
places_in a tk new p known base places points extends first each i = elim (cases_lt i (length places)) [
  | inl lt ↦ elim (cases_lt i base) [
    | inl before ↦ first i before
    | inr from ↦ go (place_at places i) (points i lt) (each i from lt)
  ]
  | inr le ↦ subst (λ (w : Place). IfSome (state_of w) (IsState new)) (sym (get_or_past places i Nowhere le)) tt
]
  where
    go : (w : Place) → IsPointOf a tk (point_at p.points.items i) → IsPlaceOf tk a new p known i w → IfSome (state_of w) (IsState new)
    go (Old s) point is = subst (IsState new) (sym is.1) (extends.states (point_at p.points.items i).left point.left)
    go (New s) point is = is.2
    go Nowhere point is = tt

-- a state at a place belongs to each automaton that extends the one that it belongs to
pub there_still : (a new : Automaton) (o : Option State) → Extends a new → IfSome o (IsState a) → IfSome o (IsState new)
there_still a new None extends is = tt
there_still a new (Some s) extends is = extends.states s is

-- the states at the places that there were
pub first_in : (a new : Automaton) (start places : List Place) → KeepsPlaces start places → Extends a new → AreIn a start → (i : ℕ) → i < length start → IfSome (state_of (place_at places i)) (IsState new)
first_in a new start places kept extends are i lt = subst (λ (w : Place). IfSome (state_of w) (IsState new)) (sym (kept.same i lt)) (there_still a new (state_of (place_at start i)) extends (are i))

-- the next point has its place
module _ (tk : PatternStates) (old start a b : Automaton) (p : Points) (known : List (Option Seq)) (base : ℕ) (places : List Place) (n : ℕ) (are : ArePlaces tk old start p known base places) (first : PlacesFirst p places a base n) (from : base ≤ n) (within : n < length places) where
  still : (i : ℕ) (s : State) → IsPlaced p places a i s → moves_at b s ≡ moves_at a s → IsPlaced p places b i s
  still i s is e = record {
    last = ap (λ (m : StateMoves). m.last) e ∙ is.last;
    labels = λ f. ap (λ (m : StateMoves). list_any f m.labels) e ∙ is.labels f;
    texts = λ f. ap (λ (m : StateMoves). list_any f m.texts) e ∙ is.texts f;
  }

  still_bare : (i : ℕ) (w : Place) → ((s : State) → w ≡ New s → moves_at b s ≡ moves_at a s) → IsBareAt a p i w → IsBareAt b p i w
  still_bare i (Old s) same bare = tt
  still_bare i (New s) same bare = same s refl ∙ bare
  still_bare i Nowhere same bare = tt

  pub next_placed : (t : State) → place_at places n ≡ New t → ChangesOnly t a b → IsPlaced p places b n t → PlacesFirst p places b base (n + 1)
  next_placed t at changes placed = record {
    done = λ i s since lt there e. elim (cases_eq i n) [
      | inl same ↦ here i s same e
      | inr ne ↦ let below : i < n = omega arith in still i s (first.done i s since below there e) (changes.others s (λ h. let less = are.rises i n s t since below within e at in omega (arith, less, h)))
    ];
    bare = λ i le there. still_bare i (place_at places i) (λ s e. changes.others s (λ h. let less = are.rises n i t s from (omega arith) there at e in omega (arith, less, h))) (first.bare i (omega arith) there);
  }
    where
      new_is : (u v : State) → New u ≡ New v → u ≡ v
      new_is u v e = cc

      here : (i : ℕ) (s : State) → i ≡ n → place_at places i ≡ New s → IsPlaced p places b i s
      here i s same e =
          let t_is : t ≡ s = new_is t s (sym at ∙ ap (place_at places) (sym same) ∙ e) in
          subst (λ (k : ℕ). IsPlaced p places b k s) (sym same) (subst (IsPlaced p places b n) t_is placed)

  pub next_none : ((t : State) → place_at places n ≡ New t → ⊥) → PlacesFirst p places a base (n + 1)
  next_none none = record {
    done = λ i s since lt there e. elim (cases_eq i n) [
      | inl same ↦ absurd (none s (ap (place_at places) (sym same) ∙ e))
      | inr ne ↦ first.done i s since (omega arith) there e
    ];
    bare = λ i le there. first.bare i (omega arith) there;
  }

-- the places of the points so far and what they have, in an automaton that extends the old one
pub record PlacesSoFar (old start now : Automaton) (p : Points) (base : ℕ) (places : List Place) (n : ℕ) : Type 0 where
  pub first : PlacesFirst p places now base n
  pub count : length now ≡ length start
  pub extends : Extends old now

module _ (tk : PatternStates) (old start now : Automaton) (p : Points) (known : List (Option Seq)) (base : ℕ) (places : List Place) (n : ℕ) (are : ArePlaces tk old start p known base places) (so_far : PlacesSoFar old start now p base places n) where
  pub each_there : (i : ℕ) → base ≤ i → i < length places → IsPlaceOf tk old now p known i (place_at places i)
  each_there i from lt = go (place_at places i) (are.each i from lt)
    where
      go : (w : Place) → IsPlaceOf tk old start p known i w → IsPlaceOf tk old now p known i w
      go (Old s) is = is
      go (New s) is = (is.0, is.1, omega (arith, is.2, so_far.count))
      go Nowhere is = is

  pub next_so_far : (next : Automaton) (t : State) → base ≤ n → n < length places → place_at places n ≡ New t → ChangesOnly t now next → IsPlaced p places next n t → PlacesSoFar old start next p base places (n + 1)
  next_so_far next t from within at changes placed = record {
    first = next_placed tk old start now next p known base places n are so_far.first from within t at changes placed;
    count = changes.states ∙ so_far.count;
    extends = extends_changed old now next t so_far.extends (subst (IsPlaceOf tk old start p known n) at (are.each n from within)).1 changes;
  }

  pub none_so_far : base ≤ n → n < length places → ((t : State) → place_at places n ≡ New t → ⊥) → PlacesSoFar old start now p base places (n + 1)
  none_so_far from within none = record { first = next_none tk old start now now p known base places n are so_far.first from within none; count = so_far.count; extends = so_far.extends }

-- what stands at a place, read with another default
pub place_read : (places : List Place) (i : ℕ) (w : Place) → i < length places → w ≡ get_or places i w → place_at places i ≡ w
place_read [] i w lt at = absurd (omega arith)
place_read (x ∷ xs) zero w lt at = sym at
place_read (x ∷ xs) (suc i) w lt at = place_read xs i w (omega arith) at

-- what is accepted at the places that there were
pub first_accept : (a new : Automaton) (start places : List Place) → IsClosed a → KeepsPlaces start places → Extends a new → AreIn a start → (d : Document) (i : ℕ) → i < length start
    → accepts_at new d (state_of (place_at places i)) ≡ accepts_at a d (state_of (place_at start i))
first_accept a new start places closed kept extends are d i lt = ap (λ (w : Place). accepts_at new d (state_of w)) (kept.same i lt) ∙ go (state_of (place_at start i)) (are i)
  where
    go : (o : Option State) → IfSome o (IsState a) → accepts_at new d o ≡ accepts_at a d o
    go None is = refl
    go (Some s) is = keeps a new closed extends d s is
