-- what holds of each element of a list, and one more at its end
use Rattle.std.proofs.Common.{◌≡◌, ℕ, zero, suc, ◌<◌, arith, List, [], ◌∷◌, ◌++◌, length, get_or, refl, sym, subst, inl, inr}
use Rattle.std.proofs.lemmas.List.{length_push, get_or_append_left, get_or_push}
use Rattle.std.proofs.lemmas.Bool.{cases_lt}
use Rattle.xd_doc.specs.Members.{IsOneOf}

abbrev pub AllAt : {A : Type 0} → A → (A → Type 0) → List A → Type 0
AllAt d Q xs = (k : ℕ) → k < length xs → Q (get_or xs k d)

pub all_push : {A : Type 0} (d : A) (Q : A → Type 0) (xs : List A) (x : A) → AllAt d Q xs → Q x → AllAt d Q (xs ++ x ∷ [])
all_push d Q xs x h q k l =
    let n = length_push xs x in
    elim (cases_lt k (length xs)) [
      | inl m ↦ subst Q (sym (get_or_append_left xs (x ∷ []) d k m)) (h k m)
      | inr m ↦ (let e : length xs ≡ k = omega arith in subst Q (sym (get_or_push xs x d k e)) q)
    ]

pub all_front : {A : Type 0} (d : A) (Q : A → Type 0) (xs : List A) (x : A) → AllAt d Q (xs ++ x ∷ []) → AllAt d Q xs
all_front d Q xs x h k l =
    let n = length_push xs x in subst Q (get_or_append_left xs (x ∷ []) d k l) (h k (omega arith))

pub all_last : {A : Type 0} (d : A) (Q : A → Type 0) (xs : List A) (x : A) → AllAt d Q (xs ++ x ∷ []) → Q x
all_last d Q xs x h = let n = length_push xs x in subst Q (get_or_push xs x d (length xs) refl) (h (length xs) (omega arith))

-- a member stands at some place
pub place_in : (x : ℕ) (xs : List ℕ) → IsOneOf x xs → (k : ℕ) × (k < length xs) × (get_or xs k 0 ≡ x)
place_in x [] m = absurd m
place_in x (y ∷ xs) (inl e) = (0, omega arith, e)
place_in x (y ∷ xs) (inr m) = let r = place_in x xs m in let l = r.1 in (suc r.0, omega arith, r.2)

pub among_at : {A : Type 0} (d : A) (xs : List A) (k : ℕ) → k < length xs → IsOneOf (get_or xs k d) xs
among_at d [] k l = absurd (omega arith)
among_at d (x ∷ xs) zero l = inl refl
among_at d (x ∷ xs) (suc k) l = inr (among_at d xs k (omega arith))
