-- Lists by places.
use Rattle.std.proofs.Common.{ℕ, zero, suc, ◌<◌, ◌≡◌, List, [], ◌∷◌, ◌++◌, length, map, get_or, set, Some, ◌⊎◌, inl, inr, ⊎_elim, refl, sym, ap, ◌∙◌, subst, arith}
use Rattle.std.specs.List.{slice_get, AllByRecursion}
use Rattle.xd_doc.proofs.Lists.{last_at}
use Rattle.xd_doc.specs.Members.{IsOneOf}

-- what stands in a list with one more element
pub slice_get-push_cases : {X : Type 0} (xs : List X) (x y : X) (n : ℕ) → slice_get (xs ++ x ∷ []) n ≡ Some y
    → (slice_get xs n ≡ Some y) ⊎ ((n ≡ length xs) × (x ≡ y))
slice_get-push_cases [] x y zero e = inr (refl, cc)
slice_get-push_cases [] x y (suc n) e = absurd (cc)
slice_get-push_cases (z ∷ xs) x y zero e = inl e
slice_get-push_cases (z ∷ xs) x y (suc n) e = ⊎_elim (λ h. inl h) (λ h. inr (ap suc h.0, h.1)) (slice_get-push_cases xs x y n e)

pub all_at : {X : Type 0} (P : X → Type 0) (xs : List X) (i : ℕ) (x : X) → AllByRecursion P xs → slice_get xs i ≡ Some x → P x
all_at P [] i x h e = absurd (cc)
all_at P (y ∷ xs) zero x h e = let same : y ≡ x = cc in subst P same h.0
all_at P (y ∷ xs) (suc i) x h e = all_at P xs i x h.1 e

pub all_mapped : {X Y : Type 0} (P : Y → Type 0) (f : X → Y) (xs : List X) (i : ℕ) (x : X) → AllByRecursion P (map f xs) → i < length xs → x ≡ get_or xs i x → P (f x)
all_mapped P f [] i x h lt e = absurd (omega arith)
all_mapped P f (y ∷ xs) zero x h lt e = rw e h.0
all_mapped P f (y ∷ xs) (suc i) x h lt e = all_mapped P f xs i x h.1 (omega arith) e

pub one_of-get : {X : Type 0} (xs : List X) (i : ℕ) (x : X) → i < length xs → x ≡ get_or xs i x → IsOneOf x xs
one_of-get [] i x lt e = absurd (omega arith)
one_of-get (y ∷ xs) zero x lt e = inl (sym e)
one_of-get (y ∷ xs) (suc i) x lt e = inr (one_of-get xs i x (omega arith) e)

pub slice_get-at : {X : Type 0} (xs ys : List X) (x : X) (n : ℕ) → ys ≡ xs ++ x ∷ [] → n ≡ length xs → slice_get ys n ≡ Some x
slice_get-at xs ys x n e at = rw (e, at) (last_at xs x)

pub none_at : {X : Type 0} (xs : List X) (n : ℕ) (x : X) → xs ≡ [] → slice_get xs n ≡ Some x → ⊥
none_at [] n x z e = cc
none_at (y ∷ xs) n x z e = cc

-- what holds at each place
pub all_places : {X : Type 0} (P : X → Type 0) (xs : List X) → ((n : ℕ) (x : X) → slice_get xs n ≡ Some x → P x) → AllByRecursion P xs
all_places P [] f = tt
all_places P (x ∷ xs) f = (f zero x refl, all_places P xs (λ n y e. f (suc n) y e))

-- a list with another element at a place
pub set_here : {X : Type 0} (xs : List X) (n : ℕ) (x y : X) → slice_get (set xs n x) n ≡ Some y → x ≡ y
set_here [] n x y e = absurd (cc)
set_here (z ∷ xs) zero x y e = cc
set_here (z ∷ xs) (suc n) x y e = set_here xs n x y e

pub set_there : {X : Type 0} (xs : List X) (n m : ℕ) (x y : X) → ¬ (m ≡ n) → slice_get (set xs n x) m ≡ Some y → slice_get xs m ≡ Some y
set_there [] n m x y ne e = e
set_there (z ∷ xs) zero zero x y ne e = absurd (ne refl)
set_there (z ∷ xs) zero (suc m) x y ne e = e
set_there (z ∷ xs) (suc n) zero x y ne e = e
set_there (z ∷ xs) (suc n) (suc m) x y ne e = set_there xs n m x y (λ q. ne (ap suc q)) e

pub set_other : {X : Type 0} (xs : List X) (n m : ℕ) (x y : X) → ¬ (m ≡ n) → slice_get xs m ≡ Some y → slice_get (set xs n x) m ≡ Some y
set_other [] n m x y ne e = e
set_other (z ∷ xs) zero zero x y ne e = absurd (ne refl)
set_other (z ∷ xs) zero (suc m) x y ne e = e
set_other (z ∷ xs) (suc n) zero x y ne e = e
set_other (z ∷ xs) (suc n) (suc m) x y ne e = set_other xs n m x y (λ q. ne (ap suc q)) e

pub set_at : {X : Type 0} (xs : List X) (n : ℕ) (x : X) → n < length xs → slice_get (set xs n x) n ≡ Some x
set_at [] n x lt = absurd (omega arith)
set_at (z ∷ xs) zero x lt = refl
set_at (z ∷ xs) (suc n) x lt = set_at xs n x (omega arith)

-- an element that looks the same
pub set-map : {X Y : Type 0} (f : X → Y) (xs : List X) (n : ℕ) (x y : X) → slice_get xs n ≡ Some x → f y ≡ f x → map f (set xs n y) ≡ map f xs
set-map f [] n x y e same = refl
set-map {X} {Y} f (z ∷ xs) zero x y e same = let is : z ≡ x = cc in ap (λ (w : Y). w ∷ map f xs) (same ∙ ap f (sym is))
set-map {X} {Y} f (z ∷ xs) (suc n) x y e same = ap (λ (ws : List Y). f z ∷ ws) (set-map f xs n x y e same)
