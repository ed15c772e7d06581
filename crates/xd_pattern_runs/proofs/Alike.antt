-- Lists that agree on what stands first and on their members: a later repeat of a member may be
-- missing.
use Rattle.std.proofs.Common.{◌≡◌, List, [], ◌∷◌, ◌++◌, map, flat_map, Option, Some, None, refl, ap, sym, subst, ◌∙◌, inl, inr}
use Rattle.std.proofs.lemmas.Grind.{flat_map-append}
use Rattle.xd_doc.proofs.Lists.{map_append}
use Rattle.xd_doc.specs.Members.{IsOneOf}
use Rattle.xd_pattern_runs.specs.Alike.{Holding, or_then, pick, Alike}
use Rattle.xd_syntax.proofs.Members.{mem_append, append_left, append_right, mem_flat, flat_mem, mem_map, map_mem}

pub append_then : {A : Type 0} (a b c : List A) → (a ++ b) ++ c ≡ a ++ (b ++ c)
append_then [] b c = refl
append_then (y ∷ a) b c = ap (λ z. y ∷ z) (append_then a b c)

pub alike_refl : {A : Type 0} (L : List A) → Alike L L
alike_refl L = record { first = λ f. refl; into = λ x m. m; back = λ x m. m }

pub alike_same : {A : Type 0} {L M : List A} → L ≡ M → Alike L M
alike_same {A} {L} {M} e = subst (Alike L) e (alike_refl L)

pub alike_sym : {A : Type 0} {L M : List A} → Alike L M → Alike M L
alike_sym a = record { first = λ f. sym (a.first f); into = a.back; back = a.into }

pub alike_trans : {A : Type 0} {L M N : List A} → Alike L M → Alike M N → Alike L N
alike_trans a b = record { first = λ f. a.first f ∙ b.first f; into = λ x m. b.into x (a.into x m); back = λ x m. a.back x (b.back x m) }

or_then_assoc : (a b c : Option Holding) → or_then (or_then a b) c ≡ or_then a (or_then b c)
or_then_assoc None b c = refl
or_then_assoc (Some x) b c = refl

or_then_none : (a : Option Holding) → or_then a None ≡ a
or_then_none None = refl
or_then_none (Some x) = refl

pub pick_append : {A : Type 0} (f : A → Option Holding) (L M : List A) → pick f (L ++ M) ≡ or_then (pick f L) (pick f M)
pick_append f [] M = refl
pick_append f (x ∷ L) M = ap (or_then (f x)) (pick_append f L M) ∙ sym (or_then_assoc (f x) (pick f L) (pick f M))

pub pick_flat : {A B : Type 0} (f : B → Option Holding) (g : A → List B) (L : List A) → pick f (flat_map g L) ≡ pick (λ x. pick f (g x)) L
pick_flat f g [] = refl
pick_flat f g (x ∷ L) = pick_append f (g x) (flat_map g L) ∙ ap (or_then (pick f (g x))) (pick_flat f g L)

pub pick_map : {A B : Type 0} (f : B → Option Holding) (g : A → B) (L : List A) → pick f (map g L) ≡ pick (λ x. f (g x)) L
pick_map f g [] = refl
pick_map f g (x ∷ L) = ap (or_then (f (g x))) (pick_map f g L)

members_append : {A : Type 0} (L M L' M' : List A) → ((x : A) → IsOneOf x L → IsOneOf x L') → ((x : A) → IsOneOf x M → IsOneOf x M') → (x : A) → IsOneOf x (L ++ M) → IsOneOf x (L' ++ M')
members_append L M L' M' f g x m =
    elim (mem_append x L M m) [ inl a ↦ append_left x L' M' (f x a) | inr b ↦ append_right x L' M' (g x b) ]

pub alike_append : {A : Type 0} {L M L' M' : List A} → Alike L L' → Alike M M' → Alike (L ++ M) (L' ++ M')
alike_append {A} {L} {M} {L'} {M'} a b = record {
  first = λ f. pick_append f L M ∙ ap (λ o. or_then o (pick f M)) (a.first f) ∙ ap (or_then (pick f L')) (b.first f) ∙ sym (pick_append f L' M');
  into = members_append L M L' M' a.into b.into;
  back = members_append L' M' L M a.back b.back;
}

members_flat : {A B : Type 0} (L M : List A) (g : A → List B) → ((x : A) → IsOneOf x L → IsOneOf x M) → (y : B) → IsOneOf y (flat_map g L) → IsOneOf y (flat_map g M)
members_flat L M g h y m = let r = mem_flat g y L m in flat_mem g y r.0 M (h r.0 r.1) r.2

pub alike_flat : {A B : Type 0} {L M : List A} (g : A → List B) → Alike L M → Alike (flat_map g L) (flat_map g M)
alike_flat {A} {B} {L} {M} g a = record {
  first = λ f. pick_flat f g L ∙ a.first (λ x. pick f (g x)) ∙ sym (pick_flat f g M);
  into = members_flat L M g a.into;
  back = members_flat M L g a.back;
}

pub alike_each : {A B : Type 0} (f g : A → List B) (L : List A) → ((x : A) → IsOneOf x L → Alike (f x) (g x)) → Alike (flat_map f L) (flat_map g L)
alike_each f g [] h = alike_refl []
alike_each f g (x ∷ L) h = alike_append (h x (inl refl)) (alike_each f g L (λ y m. h y (inr m)))

members_map : {A B : Type 0} (L M : List A) (g : A → B) → ((x : A) → IsOneOf x L → IsOneOf x M) → (y : B) → IsOneOf y (map g L) → IsOneOf y (map g M)
members_map L M g h y m = let r = mem_map g y L m in subst (λ z. IsOneOf z (map g M)) r.2 (map_mem g r.0 M (h r.0 r.1))

pub alike_map : {A B : Type 0} {L M : List A} (g : A → B) → Alike L M → Alike (map g L) (map g M)
alike_map {A} {B} {L} {M} g a = record {
  first = λ f. pick_map f g L ∙ a.first (λ x. f (g x)) ∙ sym (pick_map f g M);
  into = members_map L M g a.into;
  back = members_map M L g a.back;
}

pick_none : {A : Type 0} (f : A → Option Holding) (x : A) (L : List A) → pick f L ≡ None → IsOneOf x L → f x ≡ None
pick_none f x [] h m = absurd m
pick_none f x (y ∷ L) h m = go (f y) refl h m (pick_none f x L)
  where
    go : (o : Option Holding) → f y ≡ o → or_then o (pick f L) ≡ None → IsOneOf x (y ∷ L) → (pick f L ≡ None → IsOneOf x L → f x ≡ None) → f x ≡ None
    go None e k (inl i) rec = ap f (sym i) ∙ e
    go None e k (inr n) rec = rec k n
    go (Some z) e k n rec = cc

none_picked : {A : Type 0} (f : A → Option Holding) (M : List A) → ((x : A) → IsOneOf x M → f x ≡ None) → pick f M ≡ None
none_picked f [] h = refl
none_picked f (x ∷ M) h = ap (λ o. or_then o (pick f M)) (h x (inl refl)) ∙ none_picked f M (λ y m. h y (inr m))

-- what came already may come again to no effect
pub alike_known : {A : Type 0} (L M : List A) → ((x : A) → IsOneOf x M → IsOneOf x L) → Alike (L ++ M) L
alike_known {A} L M h = record {
  first = λ f. pick_append f L M ∙ picked f (pick f L) refl;
  into = λ x m. elim (mem_append x L M m) [ inl a ↦ a | inr b ↦ h x b ];
  back = λ x m. append_left x L M m;
}
  where
    picked : (f : A → Option Holding) (o : Option Holding) → pick f L ≡ o → or_then o (pick f M) ≡ pick f L
    picked f None e = none_picked f M (λ x m. pick_none f x L e (h x m)) ∙ sym e
    picked f (Some z) e = sym e

pub alike_twice : {A : Type 0} (L M : List A) → Alike (L ++ (L ++ M)) (L ++ M)
alike_twice L M = alike_trans (alike_same (sym (append_then L L M))) (alike_append (alike_known L L (λ x m. m)) (alike_refl M))

-- what was picked before may be picked again to no effect
again_none : (a b c : Option Holding) → or_then a (or_then b (or_then a c)) ≡ or_then a (or_then b c)
again_none None b c = refl
again_none (Some x) b c = refl

members_again : {A : Type 0} (u x : A) (L M : List A) → IsOneOf x (u ∷ (L ++ (u ∷ M))) → IsOneOf x (u ∷ (L ++ M))
members_again u x L M (inl e) = inl e
members_again u x L M (inr m) =
    elim (mem_append x L (u ∷ M) m) [ inl a ↦ inr (append_left x L M a) | inr (inl e) ↦ inl e | inr (inr b) ↦ inr (append_right x L M b) ]

members_more : {A : Type 0} (u x : A) (L M : List A) → IsOneOf x (u ∷ (L ++ M)) → IsOneOf x (u ∷ (L ++ (u ∷ M)))
members_more u x L M (inl e) = inl e
members_more u x L M (inr m) =
    elim (mem_append x L M m) [ inl a ↦ inr (append_left x L (u ∷ M) a) | inr b ↦ inr (append_right x L (u ∷ M) (inr b)) ]

-- a repeat is left out
pub alike_again : {A : Type 0} (u : A) (L M : List A) → Alike (u ∷ (L ++ (u ∷ M))) (u ∷ (L ++ M))
alike_again u L M = record {
  first = λ f. ap (or_then (f u)) (pick_append f L (u ∷ M)) ∙ again_none (f u) (pick f L) (pick f M) ∙ ap (or_then (f u)) (sym (pick_append f L M));
  into = λ x. members_again u x L M;
  back = λ x. members_more u x L M;
}

pub flat_flat : {A B C : Type 0} (f : B → List C) (g : A → List B) (L : List A) → flat_map f (flat_map g L) ≡ flat_map (λ x. flat_map f (g x)) L
flat_flat f g [] = refl
flat_flat f g (x ∷ L) = flat_map-append f (g x) (flat_map g L) ∙ ap (λ z. flat_map f (g x) ++ z) (flat_flat f g L)

pub flat_of_map : {A B C : Type 0} (f : B → List C) (g : A → B) (L : List A) → flat_map f (map g L) ≡ flat_map (λ x. f (g x)) L
flat_of_map f g [] = refl
flat_of_map f g (x ∷ L) = ap (λ z. f (g x) ++ z) (flat_of_map f g L)

pub map_of_flat : {A B C : Type 0} (f : B → C) (g : A → List B) (L : List A) → map f (flat_map g L) ≡ flat_map (λ x. map f (g x)) L
map_of_flat f g [] = refl
map_of_flat f g (x ∷ L) = map_append f (g x) (flat_map g L) ∙ ap (λ z. map f (g x) ++ z) (map_of_flat f g L)

pub map_of_map : {A B C : Type 0} (f : B → C) (g : A → B) (L : List A) → map f (map g L) ≡ map (λ x. f (g x)) L
map_of_map f g [] = refl
map_of_map f g (x ∷ L) = ap (λ z. f (g x) ∷ z) (map_of_map f g L)

pub map_each : {A B : Type 0} (f g : A → B) (L : List A) → ((x : A) → IsOneOf x L → f x ≡ g x) → map f L ≡ map g L
map_each f g [] h = refl
map_each f g (x ∷ L) h = ap (λ z. z ∷ map f L) (h x (inl refl)) ∙ ap (λ z. g x ∷ z) (map_each f g L (λ y m. h y (inr m)))

pub map_none : {A : Type 0} (f : A → A) (L : List A) → ((x : A) → f x ≡ x) → map f L ≡ L
map_none f [] h = refl
map_none f (x ∷ L) h = ap (λ z. z ∷ map f L) (h x) ∙ ap (λ z. x ∷ z) (map_none f L h)
