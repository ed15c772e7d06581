-- Members of lists that are made of other lists.
use Rattle.std.proofs.Common.{ℕ, zero, suc, ◌≡◌, ◌⊎◌, Bool, true, false, cond, List, [], ◌∷◌, length, get_or, map, Some, arith, refl, ap, sym, subst, inl, inr, ◌<◌}
use Rattle.std.specs.List.{Contains, flat_map, slice_get}
use Rattle.std.proofs.lemmas.List.Elements.{Contains-append_cases, Contains-append_left, Contains-append_right}
use Rattle.xd_doc.proofs.CopyLemmas.{none_contained}
use Rattle.xd_doc.proofs.Lists.{later_in}
use Rattle.xd_auto.specs.Runs.{from_each}

pub first_in : {X : Type 0} (x : X) (xs : List X) → Contains (x ∷ xs) x
first_in x xs = (0, omega arith, refl)

pub first_or_later : {X : Type 0} (x y : X) (xs : List X) → Contains (x ∷ xs) y → (x ≡ y) ⊎ Contains xs y
first_or_later x y xs c = go c.0 c.1 c.2
  where
    go : (i : ℕ) → i < length (x ∷ xs) → get_or (x ∷ xs) i y ≡ y → (x ≡ y) ⊎ Contains xs y
    go zero lt e = inl e
    go (suc i) lt e = inr (i, omega arith, e)

pub in_map : {X Y : Type 0} (f : X → Y) (xs : List X) (x : X) → Contains xs x → Contains (map f xs) (f x)
in_map f [] x c = absurd (none_contained x c)
in_map f (z ∷ xs) x c = elim (first_or_later z x xs c) [
  | inl e ↦ subst (λ w. Contains (f z ∷ map f xs) w) (ap f e) (first_in (f z) (map f xs))
  | inr m ↦ later_in (f z) (f x) (map f xs) (in_map f xs x m)
]

pub of_map : {X Y : Type 0} (f : X → Y) (xs : List X) (y : Y) → Contains (map f xs) y → (x : X) × Contains xs x × (f x ≡ y)
of_map f [] y c = absurd (none_contained y c)
of_map f (z ∷ xs) y c = elim (first_or_later (f z) y (map f xs) c) [
  | inl e ↦ (z, first_in z xs, e)
  | inr m ↦ (let r = of_map f xs y m in (r.0, later_in z r.0 xs r.1, r.2))
]

pub in_flat : {X Y : Type 0} (f : X → List Y) (xs : List X) (x : X) (y : Y) → Contains xs x → Contains (f x) y → Contains (flat_map f xs) y
in_flat f [] x y c d = absurd (none_contained x c)
in_flat f (z ∷ xs) x y c d = elim (first_or_later z x xs c) [
  | inl e ↦ Contains-append_left (f z) (flat_map f xs) y (subst (λ w. Contains (f w) y) (sym e) d)
  | inr m ↦ Contains-append_right (f z) (flat_map f xs) y (in_flat f xs x y m d)
]

pub of_flat : {X Y : Type 0} (f : X → List Y) (xs : List X) (y : Y) → Contains (flat_map f xs) y → (x : X) × Contains xs x × Contains (f x) y
of_flat f [] y c = absurd (none_contained y c)
of_flat f (z ∷ xs) y c = elim (Contains-append_cases (f z) (flat_map f xs) y c) [
  | inl m ↦ (z, first_in z xs, m)
  | inr m ↦ (let r = of_flat f xs y m in (r.0, later_in z r.0 xs r.1, r.2))
]

pub in_each : {X Y : Type 0} (f : ℕ → X → List Y) (xs : List X) (n : ℕ) (x : X) (y : Y) → slice_get xs n ≡ Some x → Contains (f n x) y → Contains (from_each f xs) y
in_each f [] n x y h c = absurd (cc)
in_each f (z ∷ xs) zero x y h c =
    let e : z ≡ x = cc in Contains-append_left (f 0 z) (from_each (λ n. f (suc n)) xs) y (subst (λ w. Contains (f 0 w) y) (sym e) c)
in_each f (z ∷ xs) (suc n) x y h c = Contains-append_right (f 0 z) (from_each (λ k. f (suc k)) xs) y (in_each (λ k. f (suc k)) xs n x y h c)

pub of_each : {X Y : Type 0} (f : ℕ → X → List Y) (xs : List X) (y : Y) → Contains (from_each f xs) y → (n : ℕ) × (x : X) × (slice_get xs n ≡ Some x) × Contains (f n x) y
of_each f [] y c = absurd (none_contained y c)
of_each f (z ∷ xs) y c = elim (Contains-append_cases (f 0 z) (from_each (λ n. f (suc n)) xs) y c) [
  | inl m ↦ (0, z, refl, m)
  | inr m ↦ (let r = of_each (λ n. f (suc n)) xs y m in (suc r.0, r.1, r.2, r.3))
]

pub in_cond : {X : Type 0} (b : Bool) (xs : List X) (x : X) → b ≡ true → Contains xs x → Contains (cond b xs []) x
in_cond b xs x e c = rw e c

pub of_cond : {X : Type 0} (b : Bool) (xs : List X) (x : X) → Contains (cond b xs []) x → (b ≡ true) × Contains xs x
of_cond true xs x c = (refl, c)
of_cond false xs x c = absurd (none_contained x c)

pub only_in : {X : Type 0} (x y : X) → Contains (x ∷ []) y → x ≡ y
only_in x y c = elim (first_or_later x y [] c) [ inl e ↦ e | inr m ↦ absurd (none_contained y m) ]
