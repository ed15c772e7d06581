-- Some element passes a test.
use Rattle.std.proofs.Common.{ℕ, suc, ◌≡◌, Bool, true, false, ◌||◌, List, [], ◌∷◌, Option, Some, None, refl, sym, subst}
use Rattle.std.specs.List.{list_any, slice_get}
use Rattle.std.specs.Option.{IsSomeAnd}

-- an element at a place passes the test
pub record Found {X : Type 0} (p : X → Bool) (xs : List X) : Type 0 where
  pub place : ℕ
  pub item : X
  pub there : slice_get xs place ≡ Some item
  pub passes : p item ≡ true

pub found : {X : Type 0} (p : X → Bool) (xs : List X) → list_any p xs ≡ true → Found p xs
found p [] e = absurd (cc)
found p (x ∷ xs) e = go (p x) refl e (λ h. found p xs h)
  where
    go : (b : Bool) → p x ≡ b → (b || list_any p xs) ≡ true → (list_any p xs ≡ true → Found p xs) → Found p (x ∷ xs)
    go true is h ih = record { place = 0; item = x; there = refl; passes = is }
    go false is h ih =
        let more = ih h in
        record { place = suc more.place; item = more.item; there = more.there; passes = more.passes }

pub IsSomeAnd-at : {X : Type 0} (o : Option X) (P : X → Type 0) (x : X) → o ≡ Some x → P x → IsSomeAnd o P
IsSomeAnd-at {X} o P x e h = subst (λ (w : Option X). IsSomeAnd w P) (sym e) h

-- what `IsSomeAnd` says
pub record SomeIs {X : Type 0} (o : Option X) (P : X → Type 0) : Type 0 where
  pub item : X
  pub is : o ≡ Some item
  pub holds : P item

pub IsSomeAnd-parts : {X : Type 0} (o : Option X) (P : X → Type 0) → IsSomeAnd o P → SomeIs o P
IsSomeAnd-parts None P h = absurd h
IsSomeAnd-parts (Some x) P h = record { item = x; is = refl; holds = h }
