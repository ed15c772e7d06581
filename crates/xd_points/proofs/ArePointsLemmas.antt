-- How points are added.
use Rattle.std.proofs.Common.{ℕ, ◌+◌, ◌<◌, ◌≡◌, Bool, true, false, cond, nat_eq, List, [], ◌∷◌, ◌++◌, length, map, Some, inl, inr, refl, sym, ap, ◌∙◌, subst, arith, length-append}
use Rattle.std.specs.Cmp.Lexicographic.{pointwise}
use Rattle.std.proofs.lemmas.Slice.Eq.{bytes_eq-Decides}
use Rattle.xd_auto.specs.declared.auto.State.{State}
use Rattle.xd_auto.specs.Automaton.{Automaton, StateMoves, no_moves, moves_at}
use Rattle.xd_points.specs.declared.patterns.PatternStates.{PatternStates}
use Rattle.xd_points.specs.Meaning.{IsPointOf, PointView, point}
use Rattle.xd_boole.proofs.ArePointsLemmas.{at_end, at_front, place_cases, map_number}
use Rattle.xd_points.specs.declared.points.Points.{Points}
use Rattle.xd_auto.specs.Keys.{found_at}
use Rattle.xd_points.specs.Points.{ArePoints, Grows, IsStateFor, no_point, point_at, point_key, state_at, point_last}

module _ (a : Automaton) (b : PatternStates) (old new : Points) (left pattern : State) (rights : List State) (last : Bool)
    (made : new.made ≡ old.made ++ no_moves last ∷ []) (points : new.points.items ≡ old.points.items ++ point left pattern rights ∷ [])
    (count : length old.made ≡ length old.points.items) where
  sizes : (length new.points.items ≡ length old.points.items + 1) × (length new.made ≡ length old.made + 1)
  sizes =
      let p = ap length points in let m = ap length made in
      (omega (arith, p, length-append old.points.items (point left pattern rights ∷ [])), omega (arith, m, length-append old.made (no_moves last ∷ [])))

  front_point : (i : ℕ) → i < length old.points.items → point_at new.points.items i ≡ point_at old.points.items i
  front_point i lt = at_front old.points.items new.points.items (point left pattern rights) no_point i points lt

  end_point : (i : ℕ) → i ≡ length old.points.items → point_at new.points.items i ≡ point left pattern rights
  end_point i e = at_end old.points.items new.points.items (point left pattern rights) no_point i points e

  front_moves : (i : ℕ) → i < length old.points.items → moves_at new.made (state_at i) ≡ moves_at old.made (state_at i)
  front_moves i lt = at_front old.made new.made (no_moves last) (no_moves false) i made (omega (arith, count))

  end_moves : (i : ℕ) → i ≡ length old.points.items → moves_at new.made (state_at i) ≡ no_moves last
  end_moves i e = at_end old.made new.made (no_moves last) (no_moves false) i made (e ∙ sym count)

  module _ (number : ℕ) (is_number : number ≡ length old.points.items) (is_last : last ≡ point_last a b (point left pattern rights))
      (states : IsPointOf a b (point left pattern rights))
      (put : (q : List ℕ) → found_at new.found q ≡ cond (pointwise nat_eq (point_key (point left pattern rights)) q) (Some number) (found_at old.found q))
      (whole : ArePoints a b old) where
    point_states : (i : ℕ) → i < length new.points.items → IsPointOf a b (point_at new.points.items i)
    point_states i lt =
        elim (place_cases old.points.items new.points.items (point left pattern rights) i points lt) [
          | inl h ↦ subst (IsPointOf a b) (sym (front_point i h)) (whole.points i h)
          | inr e ↦ subst (IsPointOf a b) (sym (end_point i e)) states
        ]

    point_lasts : (i : ℕ) → i < length new.points.items → (moves_at new.made (state_at i)).last ≡ point_last a b (point_at new.points.items i)
    point_lasts i lt =
        elim (place_cases old.points.items new.points.items (point left pattern rights) i points lt) [
          | inl h ↦ ap (λ (m : StateMoves). m.last) (front_moves i h) ∙ whole.last i h ∙ ap (λ (w : PointView). point_last a b w) (sym (front_point i h))
          | inr e ↦ ap (λ (m : StateMoves). m.last) (end_moves i e) ∙ is_last ∙ ap (λ (w : PointView). point_last a b w) (sym (end_point i e))
        ]

    only_found : (key : List ℕ) (i : ℕ) → found_at new.found key ≡ Some i → (i < length new.points.items) × (point_key (point_at new.points.items i) ≡ key)
    only_found key i at = go (pointwise nat_eq (point_key (point left pattern rights)) key) refl (sym (put key) ∙ at)
      where
        go : (b : Bool) → pointwise nat_eq (point_key (point left pattern rights)) key ≡ b → cond b (Some number) (found_at old.found key) ≡ Some i
            → (i < length new.points.items) × (point_key (point_at new.points.items i) ≡ key)
        go true same e =
            let here : number ≡ i = cc in
            let place : i ≡ length old.points.items = sym here ∙ is_number in
            (omega (arith, sizes.0, place), ap point_key (end_point i place) ∙ (bytes_eq-Decides (point_key (point left pattern rights)) key).0 same)
        go false other e =
            let o = whole.only key i e in
            (omega (arith, sizes.0, o.0), ap point_key (front_point i o.0) ∙ o.1)

    pub added_whole : ArePoints a b new
    added_whole = record {
      count = omega (arith, sizes.0, sizes.1, count);
      points = point_states;
      last = point_lasts;
      only = only_found;
    }

same_point : (p q : PointView) → point_key p ≡ point_key q → p ≡ q
same_point p q e =
    let first : p.left.number ≡ q.left.number = cc in
    let second : p.pattern.number ≡ q.pattern.number = cc in
    let more : map (λ (s : State). s.number) p.rights ≡ map (λ (s : State). s.number) q.rights = cc in
    let lefts : p.left ≡ q.left = ap (λ n. record { number = n }) first in
    let patterns : p.pattern ≡ q.pattern = ap (λ n. record { number = n }) second in
    ap (λ l. point l p.pattern p.rights) lefts ∙ ap (λ t. point q.left t p.rights) patterns ∙ ap (λ r. point q.left q.pattern r) (map_number p.rights q.rights more)

pub grows_same : (p : Points) → Grows p p
grows_same p = record { longer = omega arith; points = λ i lt. refl; moves = λ i lt. refl; fresh = λ i le lt. absurd (omega arith) }

pub found_state : (a : Automaton) (b : PatternStates) (p : Points) (left pattern : State) (rights : List State) (s : State) → ArePoints a b p → found_at p.found (point_key (point left pattern rights)) ≡ Some s.number → IsStateFor p left pattern rights s
found_state a b p left pattern rights s whole at =
    let o = whole.only (point_key (point left pattern rights)) s.number at in
    record { within = o.0; is = same_point (point_at p.points.items s.number) (point left pattern rights) o.1 }
