-- Lists with each item once, and numbers among them.
use Rattle.std.proofs.Common.{◌≡◌, ℕ, suc, ◌+◌, Bool, true, false, not, cond, ◌||◌, filter, List, [], ◌∷◌, ◌++◌, map, Some, refl, ap, sym, subst, ◌∙◌, arith, add-one, append-nil, append_assoc}
use Rattle.std.specs.List.{AllByRecursion, list_any, position_or_len, fold}
use Rattle.std.proofs.lemmas.List.Elements.{filter-append}
use Rattle.xd_rules.specs.Rules.{numbered}
use Rattle.xd_proof_write.specs.SecondText.{each_once, number_among}

-- ---- whether one passes, and the first that does
module _ {A : Type 0} (p : A → Bool) where
  pub passes_front : (xs ys : List A) → list_any p xs ≡ true → list_any p (xs ++ ys) ≡ true
  passes_front [] ys h = absurd (let z : false ≡ true = h in cc)
  passes_front (x ∷ xs) ys h = by (p x) refl (passes_front xs ys)
    where
      by : (b : Bool) → p x ≡ b → (list_any p xs ≡ true → list_any p (xs ++ ys) ≡ true) → (p x || list_any p (xs ++ ys)) ≡ true
      by true e more = rw e refl
      by false e more = rw e (more (sym (ap (λ b. b || list_any p xs) e) ∙ h))

  pub position_front : (xs ys : List A) → list_any p xs ≡ true → position_or_len p (xs ++ ys) ≡ position_or_len p xs
  position_front [] ys h = absurd (let z : false ≡ true = h in cc)
  position_front (x ∷ xs) ys h = by (p x) refl (position_front xs ys)
    where
      by : (b : Bool) → p x ≡ b → (list_any p xs ≡ true → position_or_len p (xs ++ ys) ≡ position_or_len p xs) → position_or_len p ((x ∷ xs) ++ ys) ≡ position_or_len p (x ∷ xs)
      by true e more = rw e refl
      by false e more = rw e (ap (λ n. 1 + n) (more (sym (ap (λ b. b || list_any p xs) e) ∙ h)))

  pub position_new : (xs : List A) (x : A) (ys : List A) → list_any p xs ≡ false → p x ≡ true → position_or_len p (xs ++ x ∷ ys) ≡ position_or_len p xs
  position_new [] x ys h e = rw e refl
  position_new (w ∷ xs) x ys h e = by (p w) refl (λ k. position_new xs x ys k e)
    where
      by : (b : Bool) → p w ≡ b → (list_any p xs ≡ false → position_or_len p (xs ++ x ∷ ys) ≡ position_or_len p xs) → position_or_len p ((w ∷ xs) ++ x ∷ ys) ≡ position_or_len p (w ∷ xs)
      by true f more = absurd (let z : true ≡ false = sym (ap (λ b. b || list_any p xs) f) ∙ h in cc)
      by false f more = rw f (ap (λ n. 1 + n) (more (sym (ap (λ b. b || list_any p xs) f) ∙ h)))

  pub passes_new : (xs : List A) (x : A) (ys : List A) → p x ≡ true → list_any p (xs ++ x ∷ ys) ≡ true
  passes_new [] x ys e = rw e refl
  passes_new (w ∷ xs) x ys e = by (p w) (passes_new xs x ys e)
    where
      by : (b : Bool) → list_any p (xs ++ x ∷ ys) ≡ true → (b || list_any p (xs ++ x ∷ ys)) ≡ true
      by true more = refl
      by false more = more

-- ---- an item that may be new, after the others
module _ {A : Type 0} (same : A → A → Bool) where
  abbrev pub with_item : List A → A → List A
  with_item xs x = cond (list_any (same x) xs) xs (xs ++ x ∷ [])

  pub grows : (xs : List A) (x : A) → (more : List A) × (with_item xs x ≡ xs ++ more)
  grows xs x = by (list_any (same x) xs) refl
    where
      by : (b : Bool) → list_any (same x) xs ≡ b → (more : List A) × (with_item xs x ≡ xs ++ more)
      by true e = ([], rw e (sym (append-nil xs)))
      by false e = (x ∷ [], rw e refl)

  pub all_grow : (ys xs : List A) → (more : List A) × (fold with_item xs ys ≡ xs ++ more)
  all_grow [] xs = ([], sym (append-nil xs))
  all_grow (y ∷ ys) xs =
      let a = grows xs y in
      let b = all_grow ys (with_item xs y) in
      (a.0 ++ b.0, b.1 ∙ ap (λ zs. zs ++ b.0) a.1 ∙ append_assoc xs a.0 b.0)

module _ {A : Type 0} (same : A → A → Bool) (is : (x y : A) → same x y ≡ true → x ≡ y) (self : (x : A) → same x x ≡ true) where
  abbrev other : A → A → Bool
  other x y = not (same x y)

  kept_others : (t x : A) → same t x ≡ false → (xs : List A) → list_any (same t) (filter (other x) xs) ≡ list_any (same t) xs
  kept_others t x e [] = refl
  kept_others t x e (y ∷ ys) = by (same x y) refl (kept_others t x e ys)
    where
      by : (b : Bool) → same x y ≡ b → list_any (same t) (filter (other x) ys) ≡ list_any (same t) ys → list_any (same t) (filter (other x) (y ∷ ys)) ≡ list_any (same t) (y ∷ ys)
      by true f more =
          let g : same t y ≡ false = ap (same t) (sym (is x y f)) ∙ e in
          rw f (rw g more)
      by false f more = rw f (ap (λ b. same t y || b) more)

  pub once_has : (t : A) (xs : List A) → list_any (same t) (each_once same xs) ≡ list_any (same t) xs
  once_has t [] = refl
  once_has t (x ∷ xs) = by (same t x) refl (once_has t xs)
    where
      by : (b : Bool) → same t x ≡ b → list_any (same t) (each_once same xs) ≡ list_any (same t) xs → list_any (same t) (each_once same (x ∷ xs)) ≡ list_any (same t) (x ∷ xs)
      by true e more = rw e refl
      by false e more = rw e (kept_others t x e (each_once same xs) ∙ more)

  pub once_push : (xs : List A) (t : A) → each_once same (xs ++ t ∷ []) ≡ with_item same (each_once same xs) t
  once_push [] t = refl
  once_push (x ∷ xs) t = ap (λ ys. x ∷ filter (other x) ys) (once_push xs t) ∙ by (same t x) refl
    where
      twice : (b : Bool) → list_any (same t) (each_once same xs) ≡ b → x ≡ t → filter (other x) (with_item same (each_once same xs) t) ≡ filter (other x) (each_once same xs)
      twice true h e = rw h refl
      twice false h e =
          let f : same x t ≡ true = ap (same x) (sym e) ∙ self x in
          rw h (filter-append (other x) (each_once same xs) (t ∷ []) ∙ rw f (append-nil (filter (other x) (each_once same xs))))

      by : (b : Bool) → same t x ≡ b → x ∷ filter (other x) (with_item same (each_once same xs) t) ≡ with_item same (x ∷ filter (other x) (each_once same xs)) t
      by true e = rw e (ap (λ ys. x ∷ ys) (twice (list_any (same t) (each_once same xs)) refl (sym (is t x e))))
      by false e = rw (e, kept_others t x e (each_once same xs)) (new (list_any (same t) (each_once same xs)) refl)
        where
          apart : (b : Bool) → same x t ≡ b → same x t ≡ false
          apart true f = absurd (let z : true ≡ false = sym (self x) ∙ ap (λ y. same y x) (is x t f) ∙ e in cc)
          apart false f = f

          new : (b : Bool) → list_any (same t) (each_once same xs) ≡ b → x ∷ filter (other x) (cond (list_any (same t) (each_once same xs)) (each_once same xs) (each_once same xs ++ t ∷ [])) ≡ cond (list_any (same t) (each_once same xs)) (x ∷ filter (other x) (each_once same xs)) ((x ∷ filter (other x) (each_once same xs)) ++ t ∷ [])
          new true h = rw h refl
          new false h = rw h (ap (λ ys. x ∷ ys) (filter-append (other x) (each_once same xs) (t ∷ []) ∙ rw (apart (same x t) refl) refl))

  pub once_folded : (ys xs : List A) → fold (with_item same) (each_once same xs) ys ≡ each_once same (xs ++ ys)
  once_folded [] xs = ap (each_once same) (sym (append-nil xs))
  once_folded (y ∷ ys) xs =
      ap (λ zs. fold (with_item same) zs ys) (sym (once_push xs y)) ∙ once_folded ys (xs ++ y ∷ []) ∙ ap (each_once same) (append_assoc xs (y ∷ []) ys)

  one-add : (n : ℕ) → 1 + n ≡ suc n
  one-add n = omega arith

  -- each is there
  weaker : (x : A) (xs ys : List A) → AllByRecursion (λ t. list_any (same t) xs ≡ true) ys → AllByRecursion (λ t. list_any (same t) (x ∷ xs) ≡ true) ys
  weaker x xs [] a = tt
  weaker x xs (y ∷ ys) a = (or_right (same y x) (list_any (same y) xs) a.0, weaker x xs ys a.1)
    where
      or_right : (a b : Bool) → b ≡ true → (a || b) ≡ true
      or_right true b e = refl
      or_right false b e = e

  pub all_there : (xs : List A) → AllByRecursion (λ t. list_any (same t) xs ≡ true) xs
  all_there [] = tt
  all_there (x ∷ xs) = (rw (self x) refl, weaker x xs xs (all_there xs))

  -- and stands under its number
  found : (t : A) (xs : List A) → list_any (same t) xs ≡ true → numbered xs (suc (position_or_len (same t) xs)) ≡ Some t
  found t [] h = absurd (let z : false ≡ true = h in cc)
  found t (x ∷ xs) h = by (same t x) refl (found t xs)
    where
      by : (b : Bool) → same t x ≡ b → (list_any (same t) xs ≡ true → numbered xs (suc (position_or_len (same t) xs)) ≡ Some t) → numbered (x ∷ xs) (suc (position_or_len (same t) (x ∷ xs))) ≡ Some t
      by true e more = rw e (ap Some (sym (is t x e)))
      by false e more =
          let n = position_or_len (same t) xs in
          rw e (subst (λ k. numbered (x ∷ xs) (suc k) ≡ Some t) (sym (one-add n)) (more (sym (ap (λ b. b || list_any (same t) xs) e) ∙ h)))

  pub number_stands : (t : A) (xs : List A) → list_any (same t) xs ≡ true → numbered xs (number_among same xs t) ≡ Some t
  number_stands t xs h = ap (numbered xs) (add-one (position_or_len (same t) xs)) ∙ found t xs h

-- ---- the same of what stands for items
module _ {A B : Type 0} (f : A → B) (same : A → A → Bool) (alike : B → B → Bool) (P : A → Type 0)
    (agree : (x y : A) → P x → P y → same x y ≡ alike (f x) (f y)) where
  filtered : (x : A) → P x → (xs : List A) → AllByRecursion P xs → map f (filter (λ y. not (same x y)) xs) ≡ filter (λ z. not (alike (f x) z)) (map f xs)
  filtered x p [] a = refl
  filtered x p (y ∷ ys) a = by (same x y) refl (filtered x p ys a.1)
    where
      by : (b : Bool) → same x y ≡ b → map f (filter (λ z. not (same x z)) ys) ≡ filter (λ z. not (alike (f x) z)) (map f ys) → map f (filter (λ z. not (same x z)) (y ∷ ys)) ≡ filter (λ z. not (alike (f x) z)) (map f (y ∷ ys))
      by true e more = let g : alike (f x) (f y) ≡ true = sym (agree x y p a.0) ∙ e in rw (e, g) more
      by false e more = let g : alike (f x) (f y) ≡ false = sym (agree x y p a.0) ∙ e in rw (e, g) (ap (λ zs. f y ∷ zs) more)

  all_filtered : (q : A → Bool) (xs : List A) → AllByRecursion P xs → AllByRecursion P (filter q xs)
  all_filtered q [] a = tt
  all_filtered q (x ∷ xs) a = by (q x) (all_filtered q xs a.1)
    where
      by : (b : Bool) → AllByRecursion P (filter q xs) → AllByRecursion P (cond b (x ∷ filter q xs) (filter q xs))
      by true more = (a.0, more)
      by false more = more

  pub all_once : (xs : List A) → AllByRecursion P xs → AllByRecursion P (each_once same xs)
  all_once [] a = tt
  all_once (x ∷ xs) a = (a.0, all_filtered (λ y. not (same x y)) (each_once same xs) (all_once xs a.1))

  pub once_mapped : (xs : List A) → AllByRecursion P xs → map f (each_once same xs) ≡ each_once alike (map f xs)
  once_mapped [] a = refl
  once_mapped (x ∷ xs) a =
      ap (λ zs. f x ∷ zs) (filtered x a.0 (each_once same xs) (all_once xs a.1) ∙ ap (λ zs. filter (λ z. not (alike (f x) z)) zs) (once_mapped xs a.1))

  at : (x : A) → P x → (xs : List A) → AllByRecursion P xs → position_or_len (same x) xs ≡ position_or_len (alike (f x)) (map f xs)
  at x p [] a = refl
  at x p (y ∷ ys) a = rw (agree x y p a.0) (ap (λ n. cond (not (alike (f x) (f y))) (1 + n) 0) (at x p ys a.1))

  pub number_mapped : (x : A) → P x → (xs : List A) → AllByRecursion P xs → number_among same xs x ≡ number_among alike (map f xs) (f x)
  number_mapped x p xs a = ap (λ n. n + 1) (at x p xs a)
