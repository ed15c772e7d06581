-- Facts about all elements of a list.
use Rattle.std.proofs.Common.{ℕ, zero, suc, ◌<◌, ◌≤◌, ◌≡◌, Bool, take, ap, List, [], ◌∷◌, ◌++◌, length, get_or, refl, sym, subst, arith}
use Rattle.std.specs.List.{AllByRecursion, list_any}
use Rattle.std.proofs.lemmas.List.{take_all}

pub all_front : {X : Type 0} (P : X → Type 0) (xs : List X) (x : X) → AllByRecursion P (xs ++ x ∷ []) → AllByRecursion P xs
all_front P [] x h = tt
all_front P (y ∷ xs) x h = (h.0, all_front P xs x h.1)

-- what stands at a place, read with another default
pub at_itself : {X : Type 0} (xs : List X) (i : ℕ) (d : X) → i < length xs → get_or xs i d ≡ get_or xs i (get_or xs i d)
at_itself [] i d lt = absurd (omega arith)
at_itself (x ∷ xs) zero d lt = refl
at_itself (x ∷ xs) (suc i) d lt = default_free xs i d (get_or xs i d) (omega arith)
  where
    default_free : {X : Type 0} (ys : List X) (k : ℕ) (e f : X) → k < length ys → get_or ys k e ≡ get_or ys k f
    default_free [] k e f h = absurd (omega arith)
    default_free (y ∷ ys) zero e f h = refl
    default_free (y ∷ ys) (suc k) e f h = default_free ys k e f (omega arith)

pub all_at : {X : Type 0} (P : X → Type 0) (xs : List X) → AllByRecursion P xs → (i : ℕ) (x : X) → i < length xs → x ≡ get_or xs i x → P x
all_at P [] h i x lt at = absurd (omega arith)
all_at P (y ∷ ys) h zero x lt at = subst P (sym at) h.0
all_at P (y ∷ ys) h (suc i) x lt at = all_at P ys h.1 i x (omega arith) at

-- the whole list was walked
pub any_walked : {X : Type 0} (p : X → Bool) (xs : List X) (i : ℕ) → length xs ≤ i → list_any p (take i xs) ≡ list_any p xs
any_walked p xs i le = ap (list_any p) (take_all i xs le)
