-- Words in lists, and lists of nothing.
use Rattle.std.proofs.Common.{◌≡◌, ℕ, Bool, true, false, cond, ◌||◌, ◌⊎◌, inl, inr, List, [], ◌∷◌, ◌++◌, flat_map, refl, ap, sym, subst, ◌∙◌}
use Rattle.std.specs.Str.{bytes_eq}
use Rattle.std.specs.List.{filter}
use Rattle.std.proofs.lemmas.Bool.{or_left, or_right}
use Rattle.xd_doc.proofs.Lists.{append_none_parts}
use Rattle.xd_doc.specs.Members.{IsOneOf}
use Rattle.xd_syntax.specs.Words.{has_word}
use Rattle.xd_laws.proofs.Unfoldings.{same_word_eq}

pub either : (a b : Bool) → (a || b) ≡ true → (a ≡ true) ⊎ ((a ≡ false) × (b ≡ true))
either true b e = inl refl
either false b e = inr (refl, e)

pub nothing_each : {A B : Type 0} (f : A → List B) (xs : List A) → flat_map f xs ≡ [] → (x : A) → IsOneOf x xs → f x ≡ []
nothing_each f [] e x m = absurd m
nothing_each f (y ∷ ys) e x (inl i) = ap f (sym i) ∙ (append_none_parts (f y) (flat_map f ys) e).0
nothing_each f (y ∷ ys) e x (inr m) = nothing_each f ys (append_none_parts (f y) (flat_map f ys) e).1 x m

pub has_word_left : (xs ys : List (List ℕ)) (x : List ℕ) → has_word xs x ≡ true → has_word (xs ++ ys) x ≡ true
has_word_left [] ys x h = absurd (cc)
has_word_left (z ∷ zs) ys x h =
    elim (either (bytes_eq z x) (has_word zs x) h)
    [ inl a ↦ or_left (bytes_eq z x) (has_word (zs ++ ys) x) a | inr b ↦ or_right (bytes_eq z x) (has_word (zs ++ ys) x) (has_word_left zs ys x b.1) ]

pub has_word_right : (xs ys : List (List ℕ)) (x : List ℕ) → has_word ys x ≡ true → has_word (xs ++ ys) x ≡ true
has_word_right [] ys x h = h
has_word_right (z ∷ zs) ys x h = or_right (bytes_eq z x) (has_word (zs ++ ys) x) (has_word_right zs ys x h)

-- in the first list, or in the second alone
pub has_word_split : (xs ys : List (List ℕ)) (x : List ℕ) → has_word (xs ++ ys) x ≡ true → (has_word xs x ≡ true) ⊎ ((has_word xs x ≡ false) × (has_word ys x ≡ true))
has_word_split [] ys x h = inr (refl, h)
has_word_split (z ∷ zs) ys x h =
    elim (either (bytes_eq z x) (has_word (zs ++ ys) x) h) [
      | inl a ↦ inl (or_left (bytes_eq z x) (has_word zs x) a)
      | inr b ↦
          elim (has_word_split zs ys x b.1) [
            | inl c ↦ inl (or_right (bytes_eq z x) (has_word zs x) c)
            | inr c ↦ inr (ap (λ t. t || has_word zs x) b.0 ∙ c.0, c.1)
          ]
    ]

-- a word that passes is kept
pub has_word_kept : (p : List ℕ → Bool) (xs : List (List ℕ)) (x : List ℕ) → has_word xs x ≡ true → p x ≡ true → has_word (filter p xs) x ≡ true
has_word_kept p [] x h k = absurd (cc)
has_word_kept p (z ∷ zs) x h k =
    elim (either (bytes_eq z x) (has_word zs x) h) [
      | inl a ↦
          let e : p z ≡ true = ap p (same_word_eq z x a) ∙ k in
          subst (λ b. has_word (cond b (z ∷ filter p zs) (filter p zs)) x ≡ true) (sym e) (or_left (bytes_eq z x) (has_word (filter p zs) x) a)
      | inr b ↦ go (p z) (has_word_kept p zs x b.1 k)
    ]
  where
    go : (b : Bool) → has_word (filter p zs) x ≡ true → has_word (cond b (z ∷ filter p zs) (filter p zs)) x ≡ true
    go true h = or_right (bytes_eq z x) (has_word (filter p zs) x) h
    go false h = h
