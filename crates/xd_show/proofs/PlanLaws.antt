-- Plans in which each state has a name.
use Rattle.std.proofs.Common.{◌≡◌, ◌⊎◌, inl, inr, ℕ, zero, suc, ◌+◌, ◌<◌, arith, refl, sym, ◌∙◌, subst, List, [], ◌∷◌, ◌++◌, length, get_or, length-append}
use Rattle.std.specs.List.{AllByRecursion}
use Rattle.xd_doc.proofs.Numbers.{less_cases}
use Rattle.xd_auto.specs.declared.auto.State.{State}
use Rattle.xd_auto.specs.Automaton.{Automaton, IsState, state_number}
use Rattle.xd_auto.proofs.Closed.{state_of_number}
use Rattle.xd_show.specs.Plans.{IsNamed}

-- the states before a number have names, and the start has the first
pub record AreNamedBelow (a : Automaton) (start : State) (n : ℕ) (named : List State) : Type 0 where
  pub states : AllByRecursion (IsState a) named
  pub some : 0 < length named
  pub first : get_or named 0 start ≡ start
  pub all : (s : State) → state_number s < n → IsNamed named s

get_front : (xs ys : List State) (i : ℕ) (d : State) → i < length xs → get_or (xs ++ ys) i d ≡ get_or xs i d
get_front [] ys i d l = absurd (omega arith)
get_front (x ∷ xs) ys zero d l = refl
get_front (x ∷ xs) ys (suc i) d l = let m : i < length xs = omega arith in get_front xs ys i d m

get_last : (xs : List State) (y d : State) → get_or (xs ++ y ∷ []) (length xs) d ≡ y
get_last [] y d = refl
get_last (x ∷ xs) y d = get_last xs y d

all_pushed : (P : State → Type 0) (xs : List State) (y : State) → AllByRecursion P xs → P y → AllByRecursion P (xs ++ y ∷ [])
all_pushed P [] y h p = (p, tt)
all_pushed P (x ∷ xs) y h p = (h.0, all_pushed P xs y h.1 p)

pub named_start : (a : Automaton) (start : State) → IsState a start → AreNamedBelow a start 0 (start ∷ [])
named_start a start h = record { states = (h, tt); some = omega arith; first = refl; all = λ s l. absurd (omega arith) }

pub named_more : (a : Automaton) (start : State) (n : ℕ) (named : List State) (s : State) → AreNamedBelow a start n named → IsState a s → state_number s ≡ n → AreNamedBelow a start (n + 1) (named ++ s ∷ [])
named_more a start n named s h b e = record {
  states = all_pushed (IsState a) named s h.states b;
  some = let c : length (named ++ s ∷ []) ≡ length named + 1 = length-append named (s ∷ []) in let l = h.some in omega arith;
  first = get_front named (s ∷ []) 0 start h.some ∙ h.first;
  all = λ t l. named_at t (less_cases (state_number t) n l);
}
  where
    more : length (named ++ s ∷ []) ≡ length named + 1
    more = length-append named (s ∷ [])

    named_at : (t : State) → (state_number t < n) ⊎ (state_number t ≡ n) → IsNamed (named ++ s ∷ []) t
    named_at t (inl l) = let w = h.all t l in (w.0, omega (arith, w.1, more), get_front named (s ∷ []) w.0 t w.1 ∙ w.2)
    named_at t (inr q) = (length named, omega (arith, more), get_last named s t ∙ sym (state_of_number t s (q ∙ sym e)))

pub named_passed : (a : Automaton) (start : State) (n : ℕ) (named : List State) → AreNamedBelow a start n named → n ≡ state_number start → AreNamedBelow a start (n + 1) named
named_passed a start n named h e = record { states = h.states; some = h.some; first = h.first; all = λ t l. named_at t (less_cases (state_number t) n l) }
  where
    named_at : (t : State) → (state_number t < n) ⊎ (state_number t ≡ n) → IsNamed named t
    named_at t (inl l) = h.all t l
    named_at t (inr q) = let same = state_of_number t start (q ∙ e) in (0, h.some, subst (λ u. get_or named 0 u ≡ u) (sym same) h.first)
