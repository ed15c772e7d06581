-- Moves are tried from one that has the name to the next.
use Rattle.std.proofs.Common.{ℕ, ◌+◌, ◌<◌, ◌≡◌, inl, inr, Bool, true, false, ◌&&◌, ◌||◌, List, length, take, get_or, arith, ap, refl, sym, ◌∙◌}
use Rattle.std.specs.List.{list_any}
use Rattle.std.proofs.Math.Seq.{take-length}
use Rattle.std.proofs.lemmas.List.{get_or-take, length-take-le}
use Rattle.std.proofs.lemmas.List.Folds.{list_any_none, list_any_more, list_any_at}
use Rattle.std.proofs.lemmas.Bool.{and_left, and_right}
use Rattle.xd_doc.proofs.Numbers.{below_or_from}
use Rattle.xd_auto.specs.Automaton.{IsNext}

fails_at : {X : Type 0} (p : X → Bool) (xs : List X) (i : ℕ) (d : X) → i < length xs → list_any p xs ≡ false → p (get_or xs i d) ≡ false
fails_at p xs i d lt none = go (p (get_or xs i d)) refl
  where
    go : (b : Bool) → p (get_or xs i d) ≡ b → b ≡ false
    go true e = sym (list_any_at p xs i d lt e) ∙ none
    go false e = refl

module _ {M : Type 0} (has : M → List ℕ → Bool) (then : M → Bool) (l : List ℕ) (moves : List M) where
  -- the move has the name, and leads on
  abbrev pub leads : M → Bool
  leads m = has m l && then m

  -- the moves before the next one with the label fail, where those before the place fail from which
  -- it is sought
  pub fails_to_next : (from n : ℕ) → IsNext has moves l from n → list_any leads (take from moves) ≡ false
      → list_any leads (take n moves) ≡ false
  fails_to_next from n next fails =
      list_any_none leads (take n moves)
      (λ i d lt. each i d (omega (arith, length-take-le n moves next.within)))
    where
      each : (i : ℕ) (d : M) → i < n → leads (get_or (take n moves) i d) ≡ false
      each i d lt =
          ap leads (get_or-take n moves i d lt)
          ∙ elim (below_or_from i from) [
            | inl before ↦ ap leads (sym (get_or-take from moves i d before))
                ∙ fails_at leads (take from moves) i d (omega (arith, length-take-le from moves (omega (arith, next.after, next.within)))) fails
            | inr later ↦ and_left (has (get_or moves i d) l) (then (get_or moves i d)) (next.lacks i d later lt)
          ]

  -- one more move fails
  pub fails_past : (n : ℕ) (step : M) → n < length moves → step ≡ get_or moves n step → list_any leads (take n moves) ≡ false
      → then step ≡ false → list_any leads (take (n + 1) moves) ≡ false
  fails_past n step lt is fails stuck =
      list_any_more leads moves n step lt
      ∙ ap (λ b. b || leads (get_or moves n step)) fails
      ∙ sym (ap leads is)
      ∙ and_right (has step l) (then step) stuck

  -- no move leads on, where no further move has the label
  pub none_takes : (from : ℕ) → IsNext has moves l from (length moves) → list_any leads (take from moves) ≡ false
      → list_any leads moves ≡ false
  none_takes from next fails = sym (ap (list_any leads) (take-length moves)) ∙ fails_to_next from (length moves) next fails
