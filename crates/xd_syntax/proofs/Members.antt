-- members of lists, by recursion
use Rattle.std.proofs.Common.{◌≡◌, Bool, true, false, cond, ◌⊎◌, List, [], ◌∷◌, ◌++◌, map, flat_map, refl, ap, inl, inr}
use Rattle.xd_doc.specs.Members.{IsOneOf}

pub mem_append : {A : Type 0} (x : A) (xs ys : List A) → IsOneOf x (xs ++ ys) → IsOneOf x xs ⊎ IsOneOf x ys
mem_append x [] ys h = inr h
mem_append x (y ∷ xs) ys (inl e) = inl (inl e)
mem_append x (y ∷ xs) ys (inr h) = elim (mem_append x xs ys h) [ inl a ↦ inl (inr a) | inr b ↦ inr b ]

pub append_left : {A : Type 0} (x : A) (xs ys : List A) → IsOneOf x xs → IsOneOf x (xs ++ ys)
append_left x [] ys h = absurd h
append_left x (y ∷ xs) ys (inl e) = inl e
append_left x (y ∷ xs) ys (inr h) = inr (append_left x xs ys h)

pub append_right : {A : Type 0} (x : A) (xs ys : List A) → IsOneOf x ys → IsOneOf x (xs ++ ys)
append_right x [] ys h = h
append_right x (y ∷ xs) ys h = inr (append_right x xs ys h)

pub mem_map : {A B : Type 0} (f : A → B) (y : B) (xs : List A) → IsOneOf y (map f xs) → (x : A) × IsOneOf x xs × (f x ≡ y)
mem_map f y [] h = absurd h
mem_map f y (x ∷ xs) (inl e) = (x, inl refl, e)
mem_map f y (x ∷ xs) (inr h) = let r = mem_map f y xs h in (r.0, inr r.1, r.2)

pub map_mem : {A B : Type 0} (f : A → B) (x : A) (xs : List A) → IsOneOf x xs → IsOneOf (f x) (map f xs)
map_mem f x [] h = absurd h
map_mem f x (y ∷ xs) (inl e) = inl (ap f e)
map_mem f x (y ∷ xs) (inr h) = inr (map_mem f x xs h)

pub mem_flat : {A B : Type 0} (f : A → List B) (y : B) (xs : List A) → IsOneOf y (flat_map f xs) → (x : A) × IsOneOf x xs × IsOneOf y (f x)
mem_flat f y [] h = absurd h
mem_flat f y (x ∷ xs) h =
    elim (mem_append y (f x) (flat_map f xs) h)
    [ inl a ↦ (x, inl refl, a) | inr b ↦ let r = mem_flat f y xs b in (r.0, inr r.1, r.2) ]

pub flat_mem : {A B : Type 0} (f : A → List B) (y : B) (x : A) (xs : List A) → IsOneOf x xs → IsOneOf y (f x) → IsOneOf y (flat_map f xs)
flat_mem f y x [] h k = absurd h
flat_mem {B} f y x (z ∷ xs) (inl e) k = append_left y (f z) (flat_map f xs) (rw e k)
flat_mem f y x (z ∷ xs) (inr h) k = append_right y (f z) (flat_map f xs) (flat_mem f y x xs h k)

-- two maps that agree on the members give the same list
pub flat_same : {A B : Type 0} (f g : A → List B) (xs : List A) → ((x : A) → IsOneOf x xs → f x ≡ g x) → flat_map f xs ≡ flat_map g xs
flat_same f g [] h = refl
flat_same f g (x ∷ xs) h = rw (h x (inl refl), flat_same f g xs (λ y m. h y (inr m)))

pub cond_true : {A : Type 0} (b : Bool) (x : A) (xs : List A) → IsOneOf x (cond b xs []) → (b ≡ true) × IsOneOf x xs
cond_true true x xs h = (refl, h)
cond_true false x xs h = absurd h
