-- a list without repeats within another is no longer
use Rattle.std.proofs.Common.{◌≡◌, ◌≤◌, arith, length-append, List, [], ◌∷◌, ◌++◌, length, refl, ap, sym, subst, inl, inr}
use Rattle.xd_doc.specs.Members.{IsOneOf}
use Rattle.xd_syntax.proofs.Members.{mem_append, append_left, append_right}

abbrev pub NoRepeat : {A : Type 0} → List A → Type 0
NoRepeat [] = Unit {0}
NoRepeat (x ∷ xs) = (IsOneOf x xs → ⊥) × NoRepeat xs

split_at : {A : Type 0} (x : A) (ys : List A) → IsOneOf x ys → (as' : List A) × (bs : List A) × (ys ≡ as' ++ x ∷ bs)
split_at x [] h = absurd h
split_at x (y ∷ ys) (inl e) = ([], ys, ap (λ z. z ∷ ys) e)
split_at x (y ∷ ys) (inr h) = let r = split_at x ys h in (y ∷ r.0, r.1, ap (λ zs. y ∷ zs) r.2)

pub pigeon : {A : Type 0} (xs ys : List A) → NoRepeat xs → ((x : A) → IsOneOf x xs → IsOneOf x ys) → length xs ≤ length ys
pigeon [] ys n h = omega arith
pigeon {A} (x ∷ xs) ys n h =
    let r = split_at x ys (h x (inl refl)) in
    let i = pigeon xs (r.0 ++ r.1) n.1 (λ z m. smaller z m r.0 r.1 (subst (IsOneOf z) r.2 (h z (inr m)))) in
    let e : length ys ≡ length (r.0 ++ x ∷ r.1) = ap length r.2 in
    omega (arith, length-append r.0 (x ∷ r.1), length-append r.0 r.1)
  where
    smaller : (z : A) → IsOneOf z xs → (as' bs : List A) → IsOneOf z (as' ++ x ∷ bs) → IsOneOf z (as' ++ bs)
    smaller z m as' bs k = elim (mem_append z as' (x ∷ bs) k) [
      | inl a ↦ append_left z as' bs a
      | inr (inl e) ↦ absurd (n.0 (subst (λ q. IsOneOf q xs) (sym e) m))
      | inr (inr b) ↦ append_right z as' bs b
    ]
