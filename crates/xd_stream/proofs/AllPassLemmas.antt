-- On tests of lists: some element passes, or all do.
use Rattle.std.proofs.Common.{ℕ, ◌≡◌, Bool, true, false, not, ◌&&◌, ◌||◌, List, [], ◌∷◌, ◌++◌, Some, refl, ap, sym, ◌∙◌}
use Rattle.std.specs.Cmp.{IsEquivalence}
use Rattle.std.specs.List.{Contains, dedup, list_any, slice_get}
use Rattle.std.proofs.lemmas.List.Folds.{Any-from_list_any, list_any-append, list_any_at}
use Rattle.std.proofs.lemmas.List.Kept.{Contains-dedup, Contains-from_dedup}
use Rattle.std.proofs.lemmas.Map.Keys.{any_passes_from_place}
use Rattle.xd_doc.proofs.Bools.{same_tests}
use Rattle.xd_auto.proofs.Anys.{Found, found}
use Rattle.xd_stream.specs.Standing.{AllPass}

module _ {X : Type 0} where
  pub any_same : (f g : X → Bool) → ((x : X) → f x ≡ g x) → (xs : List X) → list_any f xs ≡ list_any g xs
  any_same f g h [] = refl
  any_same f g h (x ∷ xs) = rw (h x, any_same f g h xs) refl

  pub any_none : (f : X → Bool) → ((x : X) → f x ≡ false) → (xs : List X) → list_any f xs ≡ false
  any_none f h [] = refl
  any_none f h (x ∷ xs) = rw (h x) (any_none f h xs)

  pub any_and_right : (f : X → Bool) (b : Bool) (xs : List X) → list_any (λ x. f x && b) xs ≡ (list_any f xs && b)
  any_and_right f b [] = refl
  any_and_right f b (x ∷ xs) = ap (λ y. (f x && b) || y) (any_and_right f b xs) ∙ spread (f x) (list_any f xs) b
    where
      spread : (x y b : Bool) → ((x && b) || (y && b)) ≡ ((x || y) && b)
      spread true true true = refl
      spread true true false = refl
      spread true false true = refl
      spread true false false = refl
      spread false y b = refl

  pub any_and_left : (f : X → Bool) (b : Bool) (xs : List X) → list_any (λ x. b && f x) xs ≡ (b && list_any f xs)
  any_and_left f true xs = refl
  any_and_left f false xs = any_none (λ x. false) (λ x. refl) xs

  pub any_or : (f g : X → Bool) (xs : List X) → list_any (λ x. f x || g x) xs ≡ (list_any f xs || list_any g xs)
  any_or f g [] = refl
  any_or f g (x ∷ xs) = ap (λ y. (f x || g x) || y) (any_or f g xs) ∙ cross (f x) (g x) (list_any f xs) (list_any g xs)
    where
      cross : (a b c d : Bool) → ((a || b) || (c || d)) ≡ ((a || c) || (b || d))
      cross true b c d = refl
      cross false true true d = refl
      cross false true false d = refl
      cross false false c d = refl

  -- all pass, so one at a place does
  pub pass_at : (g : X → Bool) (xs : List X) (n : ℕ) (x : X) → AllPass g xs → slice_get xs n ≡ Some x → g x ≡ true
  pass_at g xs n x all at = go (g x) refl
    where
      go : (b : Bool) → g x ≡ b → b ≡ true
      go true e = refl
      go false e = absurd (let t : true ≡ false = sym (any_passes_from_place (λ y. not (g y)) xs n x at (ap not e)) ∙ all in cc)

  -- none passes a test that each at a place fails
  pub none_at : (h : X → Bool) (xs : List X) → ((n : ℕ) (x : X) → slice_get xs n ≡ Some x → h x ≡ false) → list_any h xs ≡ false
  none_at h xs each = go (list_any h xs) refl
    where
      go : (b : Bool) → list_any h xs ≡ b → b ≡ false
      go false e = refl
      go true e = let f : Found h xs = found h xs e in absurd (let t : true ≡ false = sym f.passes ∙ each f.place f.item f.there in cc)

  -- none of those that all pass one test passes the other
  pub pass_none : (g h : X → Bool) (xs : List X) → AllPass g xs → ((x : X) → g x ≡ true → h x ≡ false) → list_any h xs ≡ false
  pass_none g h xs all each = none_at h xs (λ n x at. each x (pass_at g xs n x all at))

-- one more
pub any_pushed : {X : Type 0} (f : X → Bool) (xs : List X) (x : X) → list_any f (xs ++ x ∷ []) ≡ (list_any f xs || f x)
any_pushed f xs x = list_any-append f xs (x ∷ []) ∙ ap (λ b. list_any f xs || b) (or_none (f x))
  where
    or_none : (b : Bool) → (b || false) ≡ b
    or_none true = refl
    or_none false = refl

-- what passes is in the other list too
any_within : {X : Type 0} (f : X → Bool) (xs ys : List X) → ((x : X) → Contains xs x → Contains ys x) → list_any f xs ≡ true → list_any f ys ≡ true
any_within f xs ys within h =
    let a = Any-from_list_any f xs h in
    let k = within a.1 (a.0, a.2, a.3) in
    list_any_at f ys k.0 a.1 k.1 (ap f k.2 ∙ a.4)

-- neighbours that are equal are taken as one
pub any_dedup : {X : Type 0} {E : X → X → Bool} → IsEquivalence E → ((x y : X) → E x y ≡ true → x ≡ y) → (f : X → Bool) (xs : List X) → list_any f (dedup E xs) ≡ list_any f xs
any_dedup {X} {E} e same f xs =
    same_tests (list_any f (dedup E xs)) (list_any f xs)
    (any_within f (dedup E xs) xs (λ x h. Contains-from_dedup E xs x h))
    (any_within f xs (dedup E xs) (λ x h. Contains-dedup e same xs x h))

-- two tests that are the same where a third passes, which all pass
pub pass_same : {X : Type 0} (g f k : X → Bool) (xs : List X) → AllPass g xs → ((x : X) → g x ≡ true → f x ≡ k x) → list_any f xs ≡ list_any k xs
pass_same g f k [] all each = refl
pass_same g f k (x ∷ xs) all each = go (g x) refl all (λ a. pass_same g f k xs a each)
  where
    go : (b : Bool) → g x ≡ b → (not b || list_any (λ y. not (g y)) xs) ≡ false → (AllPass g xs → list_any f xs ≡ list_any k xs) → (f x || list_any f xs) ≡ (k x || list_any k xs)
    go true e a rest = ap (λ b. b || list_any f xs) (each x e) ∙ ap (λ b. k x || b) (rest a)
    go false e a rest = absurd (cc)

pub any_swap : {X Y : Type 0} (f : X → Y → Bool) (xs : List X) (ys : List Y) → list_any (λ x. list_any (f x) ys) xs ≡ list_any (λ y. list_any (λ x. f x y) xs) ys
any_swap f [] ys = sym (any_none (λ y. false) (λ y. refl) ys)
any_swap f (x ∷ xs) ys = ap (λ b. list_any (f x) ys || b) (any_swap f xs ys) ∙ sym (any_or (f x) (λ y. list_any (λ z. f z y) xs) ys)
