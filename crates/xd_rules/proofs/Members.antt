-- Membership by cases on the list, and the lists of heads and cases.
use Rattle.std.proofs.Common.{ℕ, zero, suc, ◌+◌, ◌≡◌, Bool, true, false, cond, ◌||◌, List, [], ◌∷◌, ◌++◌, map, Some, ◌⊎◌, inl, inr, sym, refl, ap, subst, arith}
use Rattle.std.specs.List.{list_any, filter, flat_map, AllByRecursion, slice_get}
use Rattle.xd_rules.specs.declared.atom.Atom.{Atom}
use Rattle.xd_doc.specs.Members.{IsOneOf}
use Rattle.xd_rules.specs.Heads.{Head, Named, atoms_of}
use Rattle.xd_rules.specs.Rules.{numbered, atoms_from}
use Rattle.xd_rules.specs.Meaning.{keyed}

pub one_of-append_left : {X : Type 0} (x : X) (xs ys : List X) → IsOneOf x xs → IsOneOf x (xs ++ ys)
one_of-append_left x [] ys h = absurd h
one_of-append_left x (y ∷ xs) ys h = elim h [ inl e ↦ inl e | inr k ↦ inr (one_of-append_left x xs ys k) ]

pub one_of-append_right : {X : Type 0} (x : X) (xs ys : List X) → IsOneOf x ys → IsOneOf x (xs ++ ys)
one_of-append_right x [] ys h = h
one_of-append_right x (y ∷ xs) ys h = inr (one_of-append_right x xs ys h)

pub one_of-append_cases : {X : Type 0} (x : X) (xs ys : List X) → IsOneOf x (xs ++ ys) → IsOneOf x xs ⊎ IsOneOf x ys
one_of-append_cases x [] ys h = inr h
one_of-append_cases x (y ∷ xs) ys h =
    elim h [ inl e ↦ inl (inl e) | inr k ↦ elim (one_of-append_cases x xs ys k) [ inl a ↦ inl (inr a) | inr b ↦ inr b ] ]

pub one_of-map : {X Y : Type 0} (f : X → Y) (x : X) (xs : List X) → IsOneOf x xs → IsOneOf (f x) (map f xs)
one_of-map f x [] h = absurd h
one_of-map f x (y ∷ xs) h = elim h [ inl e ↦ inl (ap f e) | inr k ↦ inr (one_of-map f x xs k) ]

pub one_of-from_map : {X Y : Type 0} (f : X → Y) (y : Y) (xs : List X) → IsOneOf y (map f xs) → (x : X) × IsOneOf x xs × (f x ≡ y)
one_of-from_map f y [] h = absurd h
one_of-from_map f y (x ∷ xs) h =
    elim h [ inl e ↦ (x, inl refl, e) | inr k ↦ let r = one_of-from_map f y xs k in (r.0, inr r.1, r.2) ]

pub one_of-from_flat_map : {X Y : Type 0} (f : X → List Y) (y : Y) (xs : List X) → IsOneOf y (flat_map f xs) → (x : X) × IsOneOf x xs × IsOneOf y (f x)
one_of-from_flat_map f y [] h = absurd h
one_of-from_flat_map f y (x ∷ xs) h =
    elim (one_of-append_cases y (f x) (flat_map f xs) h)
    [ inl a ↦ (x, inl refl, a) | inr k ↦ let r = one_of-from_flat_map f y xs k in (r.0, inr r.1, r.2) ]

pub one_of-to_flat_map : {X Y : Type 0} (f : X → List Y) (y : Y) (x : X) (xs : List X) → IsOneOf x xs → IsOneOf y (f x) → IsOneOf y (flat_map f xs)
one_of-to_flat_map f y x [] h k = absurd h
one_of-to_flat_map f y x (z ∷ xs) h k =
    elim h [
      | inl e ↦ one_of-append_left y (f z) (flat_map f xs) (subst (λ w. IsOneOf y (f w)) (sym e) k)
      | inr m ↦ one_of-append_right y (f z) (flat_map f xs) (one_of-to_flat_map f y x xs m k)
    ]

pub one_of-filter : {X : Type 0} (p : X → Bool) (x : X) (xs : List X) → IsOneOf x xs → p x ≡ true → IsOneOf x (filter p xs)
one_of-filter p x [] h t = absurd h
one_of-filter p x (y ∷ xs) h t =
    elim h [
      | inl e ↦ let ey : p y ≡ true = subst (λ w. p w ≡ true) (sym e) t in rw ey (inl e)
      | inr k ↦ go (p y) (one_of-filter p x xs k t)
    ]
  where
    go : (b : Bool) → IsOneOf x (filter p xs) → IsOneOf x (cond b (y ∷ filter p xs) (filter p xs))
    go true r = inr r
    go false r = r

pub one_of-from_filter : {X : Type 0} (p : X → Bool) (x : X) (xs : List X) → IsOneOf x (filter p xs) → IsOneOf x xs × (p x ≡ true)
one_of-from_filter p x [] h = absurd h
one_of-from_filter p x (y ∷ xs) h = go (p y) refl h (λ m. one_of-from_filter p x xs m)
  where
    go : (b : Bool) → p y ≡ b → IsOneOf x (cond b (y ∷ filter p xs) (filter p xs)) → (IsOneOf x (filter p xs) → IsOneOf x xs × (p x ≡ true)) → IsOneOf x (y ∷ xs) × (p x ≡ true)
    go true e k ih = elim k [ inl s ↦ (inl s, subst (λ w. p w ≡ true) s e) | inr m ↦ let r = ih m in (inr r.0, r.1) ]
    go false e k ih = let r = ih k in (inr r.0, r.1)

pub one_of-all : {X : Type 0} (P : X → Type 0) (x : X) (xs : List X) → AllByRecursion P xs → IsOneOf x xs → P x
one_of-all P x [] a h = absurd h
one_of-all P x (y ∷ xs) a h = elim h [ inl e ↦ subst P e a.0 | inr k ↦ one_of-all P x xs a.1 k ]

pub one_of-get : {X : Type 0} (x : X) (xs : List X) (i : ℕ) → slice_get xs i ≡ Some x → IsOneOf x xs
one_of-get x [] i e = absurd (cc)
one_of-get x (y ∷ xs) zero e = inl (cc)
one_of-get x (y ∷ xs) (suc i) e = inr (one_of-get x xs i e)

pub get-one_of : {X : Type 0} (x : X) (xs : List X) → IsOneOf x xs → (i : ℕ) × (slice_get xs i ≡ Some x)
get-one_of x [] h = absurd h
get-one_of x (y ∷ xs) h = elim h [ inl e ↦ (zero, ap Some e) | inr k ↦ let r = get-one_of x xs k in (suc r.0, r.1) ]

pub one_of-any : {X : Type 0} (p : X → Bool) (xs : List X) → list_any p xs ≡ true → (x : X) × IsOneOf x xs × (p x ≡ true)
one_of-any p [] h = absurd (cc)
one_of-any {X} p (x ∷ xs) h = go (p x) refl h (λ k. one_of-any p xs k)
  where
    go : (b : Bool) → p x ≡ b → (b || list_any p xs) ≡ true → (list_any p xs ≡ true → (y : X) × IsOneOf y xs × (p y ≡ true)) → (y : X) × IsOneOf y (x ∷ xs) × (p y ≡ true)
    go true e k ih = (x, inl refl, e)
    go false e k ih = let r = ih k in (r.0, inr r.1, r.2)

pub any-one_of : {X : Type 0} (p : X → Bool) (x : X) (xs : List X) → IsOneOf x xs → p x ≡ true → list_any p xs ≡ true
any-one_of p x [] h t = absurd h
any-one_of p x (y ∷ xs) h t =
    elim h [
      | inl e ↦ let ey : p y ≡ true = subst (λ w. p w ≡ true) (sym e) t in rw ey refl
      | inr k ↦ go (p y) (any-one_of p x xs k t)
    ]
  where
    go : (b : Bool) → list_any p xs ≡ true → (b || list_any p xs) ≡ true
    go true r = refl
    go false r = r

pub one_of-numbered : {X : Type 0} (x : X) (xs : List X) (n : ℕ) → numbered xs n ≡ Some x → IsOneOf x xs
one_of-numbered x xs zero e = absurd (cc)
one_of-numbered x xs (suc n) e = one_of-get x xs n e

-- an atom of a head is wanted with the head's number
pub one_of-wanted : {S : Type 0} (names : Named) (n : ℕ) (hs : List (Head S)) (h : Head S) (a : Atom) → IsOneOf h hs → IsOneOf a (atoms_of names h.kind)
    → (k : ℕ) × (numbered hs (suc k) ≡ Some h) × IsOneOf (keyed (n + k) a) (atoms_from names n hs)
one_of-wanted names n [] h a k m = absurd k
one_of-wanted {S} names n (g ∷ hs) h a (inl e) m =
    let here : IsOneOf (keyed n a) (map (keyed n) (atoms_of names g.kind)) =
    one_of-map (keyed n) a (atoms_of names g.kind) (subst (λ (w : Head S). IsOneOf a (atoms_of names w.kind)) (sym e) m) in
    let zero_behind : n ≡ n + 0 = omega arith in
    (0, ap Some e, subst (λ i. IsOneOf (keyed i a) (atoms_from names n (g ∷ hs))) zero_behind (one_of-append_left (keyed n a) (map (keyed n) (atoms_of names g.kind)) (atoms_from names (n + 1) hs) here))
one_of-wanted names n (g ∷ hs) h a (inr k) m =
    let r = one_of-wanted names (n + 1) hs h a k m in
    let one_more : n + 1 + r.0 ≡ n + suc r.0 = omega arith in (
      suc r.0,
      r.1,
      subst (λ i. IsOneOf (keyed i a) (atoms_from names n (g ∷ hs))) one_more
          (one_of-append_right (keyed (n + 1 + r.0) a) (map (keyed n) (atoms_of names g.kind)) (atoms_from names (n + 1) hs) r.2),
    )

pub only_one : {X : Type 0} (x y : X) → IsOneOf x (y ∷ []) → x ≡ y
only_one x y (inl e) = sym e
only_one x y (inr e) = absurd e
