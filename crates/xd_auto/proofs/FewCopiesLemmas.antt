-- No more states are copied than there are.
use Rattle.std.proofs.Common.{ℕ, zero, suc, ◌≡◌, ◌+◌, ◌-◌, ◌<◌, ◌≤◌, Bool, true, false, ◌||◌, List, [], ◌∷◌, length, get_or, nat_eq, arith, refl, sym, ap, subst, ◌∙◌, inl, inr}
use Rattle.std.proofs.lemmas.Bool.{cases_lt, eq-eqb}
use Rattle.std.proofs.lemmas.Map.Steps.{le-length_from_below}
use Rattle.std.specs.List.{list_any}
use Rattle.xd_doc.proofs.Bools.{or_second}
use Rattle.xd_auto.specs.declared.auto.State.{State}
use Rattle.xd_auto.specs.Automaton.{Automaton}
use Rattle.xd_auto.specs.Copying.{Copies, Reached, copy_of, moved}
use Rattle.xd_auto.proofs.AddsMovesLemmas.{moved_is}
use Rattle.xd_auto.proofs.FindsMoreLemmas.{state_at}

first_true : (a b : Bool) → a ≡ true → (a || b) ≡ true
first_true true b e = refl
first_true false b e = absurd (cc)

-- ---- the values of a function up to a number
module _ (f : ℕ → ℕ) where
  abbrev values : ℕ → List ℕ
  values zero = []
  values (suc k) = f k ∷ values k

  values_length : (k : ℕ) → length (values k) ≡ k
  values_length zero = refl
  values_length (suc k) = ap suc (values_length k)

  among_values : (k m q : ℕ) → m < k → q ≡ f m → list_any (nat_eq q) (values k) ≡ true
  among_values zero m q h e = absurd (omega (arith, h))
  among_values (suc k) m q h e = elim (cases_lt m k) [
    | inl l ↦ or_second (nat_eq q (f k)) (among_values k m q l e)
    | inr g ↦ (let s : m ≡ k = omega (arith, h, g) in first_true (nat_eq q (f k)) (list_any (nat_eq q) (values k)) (eq-eqb q (f k) (e ∙ ap f s)))
  ]

-- each state that was found has the number of a state, and a copy of its own
pub few_found : (a : Automaton) (contents : Bool) (start : State) (base : ℕ) (order : List State) (copies : Copies)
    → Reached a contents start base order copies → length order ≤ length a
few_found a contents start base order copies reached =
    let f : ℕ → ℕ = λ m. (moved copies (state_at m)).number - base in
    subst (λ n. length order ≤ n) (values_length f (length a))
    (le-length_from_below (values f (length a)) (length order) (λ q lt.
    let s : State = get_or order q start in
    let at : moved copies s ≡ state_at (base + q) = moved_is copies s (state_at (base + q)) (reached.placed.placed q start lt) in
    let number : (moved copies s).number ≡ base + q = ap (λ (c : State). c.number) at in
    among_values f (length a) s.number q (reached.states q start lt) (let e : q ≡ (moved copies s).number - base = omega (arith, number) in e)))
