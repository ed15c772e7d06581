-- Finding states and placing their copies.
use Rattle.std.proofs.Common.{ℕ, zero, suc, ◌≡◌, ◌≢◌, ◌⊎◌, ◌+◌, ◌<◌, ◌≤◌, Bool, true, false, cond, List, [], ◌∷◌, ◌++◌, length, get_or, nat_eq, Option, Some, None, is_some, arith, refl, sym, subst, ap, ◌∙◌, inl, inr}
use Rattle.std.proofs.lemmas.Bool.{cases_eq, cases_lt, eqb-true}
use Rattle.std.proofs.lemmas.List.{get_or_append_left, get_or_at, length_push}
use Rattle.xd_auto.specs.declared.auto.State.{State}
use Rattle.xd_auto.specs.Copying.{ArePlaced, Copies, FindsMore, HasCopy, copy_of, no_copies, uncopied}
use Rattle.xd_auto.proofs.LeftOutLemmas.{left_out-more}

abbrev pub state_at : ℕ → State
state_at n = record { number = n }

pub FindsMore-same : (Kind : State → Type 0) (order : List State) (copies : Copies) → FindsMore Kind order copies order copies
FindsMore-same Kind order copies = record {
  longer = omega arith;
  front = λ i e lt. refl;
  news = λ i e le lt. absurd (omega arith);
  kept = λ s h. h;
}

pub FindsMore-trans : (Kind : State → Type 0) (o1 : List State) (c1 : Copies) (o2 : List State) (c2 : Copies) (o3 : List State) (c3 : Copies)
    → FindsMore Kind o1 c1 o2 c2 → FindsMore Kind o2 c2 o3 c3 → FindsMore Kind o1 c1 o3 c3
FindsMore-trans Kind o1 c1 o2 c2 o3 c3 h k = record {
  longer = omega (arith, h.longer, k.longer);
  front = λ i e lt. let l : i < length o2 = omega (arith, h.longer) in k.front i e l ∙ h.front i e lt;
  news = λ i e le lt.
      elim (cases_lt i (length o2)) [
        | inl l ↦ subst Kind (sym (k.front i e l)) (h.news i e le l)
        | inr g ↦ k.news i e g lt
      ];
  kept = λ s p. k.kept s (h.kept s p);
}

pub FindsMore-weaker : (Kind Other : State → Type 0) (o1 : List State) (c1 : Copies) (o2 : List State) (c2 : Copies) → ((s : State) → Kind s → Other s)
    → FindsMore Kind o1 c1 o2 c2 → FindsMore Other o1 c1 o2 c2
FindsMore-weaker Kind Other o1 c1 o2 c2 f h = record {
  longer = h.longer;
  front = h.front;
  news = λ i e le lt. f (get_or o2 i e) (h.news i e le lt);
  kept = h.kept;
}

-- a state that has no copy yet is found
module _ (base : ℕ) (order : List State) (copies : Copies) (s : State) (none : copy_of copies s ≡ None) (old : ArePlaced base order copies) (copies2 : Copies)
    (adds : (n : ℕ) → copies2 n ≡ cond (nat_eq s.number n) (Some (state_at (base + length order))) (copies n)) (own_copy : copy_of copies2 s ≡ Some (state_at (base + length order))) where
  same_copy : (t : State) → t.number ≢ s.number → copy_of copies2 t ≡ copy_of copies t
  same_copy t ne = go (nat_eq s.number t.number) refl (adds t.number)
    where
      go : (b : Bool) → nat_eq s.number t.number ≡ b → copies2 t.number ≡ cond b (Some (state_at (base + length order))) (copies t.number) → copies2 t.number ≡ copies t.number
      go true e h = absurd (ne (sym (eqb-true s.number t.number e)))
      go false e h = h

  -- a state with a copy is another one
  another : (t c : State) → copy_of copies t ≡ Some c → t.number ≢ s.number
  another t c has e =
      let both : copy_of copies t ≡ copy_of copies s = ap copies e in
      let no : Some c ≡ None = sym has ∙ both ∙ none in
      cc

  pub placed_visit : ArePlaced base (order ++ s ∷ []) copies2
  placed_visit = record {
    placed = λ i e lt. at i e lt (cases_lt i (length order));
    listed = λ t c is. from t c is (cases_eq t.number s.number);
  }
    where
      at : (i : ℕ) (e : State) → i < length (order ++ s ∷ []) → (i < length order) ⊎ (length order ≤ i) → copy_of copies2 (get_or (order ++ s ∷ []) i e) ≡ Some (state_at (base + i))
      at i e lt (inl l) =
          let was = old.placed i e l in
          ap (λ (t : State). copy_of copies2 t) (get_or_append_left order (s ∷ []) e i l)
          ∙ same_copy (get_or order i e) (another (get_or order i e) (state_at (base + i)) was) ∙ was
      at i e lt (inr g) =
          let len : length (order ++ s ∷ []) ≡ length order + 1 = length_push order s in
          let end : length order ≡ i = omega arith in
          ap (λ (t : State). copy_of copies2 t) (get_or_at order s [] e i end) ∙ own_copy ∙ ap (λ n. Some (state_at (base + n))) end

      from : (t c : State) → copy_of copies2 t ≡ Some c → (t.number ≡ s.number) ⊎ (t.number ≢ s.number)
          → (i : ℕ) × (i < length (order ++ s ∷ [])) × (get_or (order ++ s ∷ []) i t ≡ t) × (c ≡ state_at (base + i))
      from t c is (inl e) =
          let states : s ≡ t = ap (λ n. state_at n) (sym e) in
          let copy : Some c ≡ Some (state_at (base + length order)) = sym is ∙ ap copies2 e ∙ own_copy in
          let same : c ≡ state_at (base + length order) = cc in
          (length order, omega (arith, length_push order s), get_or_at order s [] t (length order) refl ∙ states, same)
      from t c is (inr ne) =
          let was = old.listed t c (sym (same_copy t ne) ∙ is) in
          (was.0, omega (arith, was.1, length_push order s), get_or_append_left order (s ∷ []) t was.0 was.1 ∙ was.2, was.3)

  pub finds_visit : FindsMore (λ t. t ≡ s) order copies (order ++ s ∷ []) copies2
  finds_visit = record {
    longer = omega (arith, length_push order s);
    front = λ i e lt. get_or_append_left order (s ∷ []) e i lt;
    news = λ i e le lt. let end : length order ≡ i = omega (arith, length_push order s) in get_or_at order s [] e i end;
    kept = λ t h. (h.0, same_copy t (another t h.0 h.1) ∙ h.1);
  }

  pub has_visit : HasCopy copies2 s
  has_visit = (state_at (base + length order), own_copy)

  pub steps_visit : (n : ℕ) → s.number < n → length (order ++ s ∷ []) + uncopied copies2 n ≡ length order + uncopied copies n
  steps_visit n lt =
      let less : uncopied copies2 n + 1 ≡ uncopied copies n =
      left_out-more (λ i. is_some (copies i)) (λ i. is_some (copies2 i)) s.number (ap is_some none) (ap is_some own_copy) (λ i ne. ap is_some (same_copy (state_at i) ne)) n lt in
      omega (arith, length_push order s)

pub placed_none : (base : ℕ) (copies : Copies) → copies ≡ no_copies → ArePlaced base [] copies
placed_none base copies e = record {
  placed = λ i d lt. absurd (omega arith);
  listed = λ s c is. let no : None ≡ Some c = sym (ap (λ (m : Copies). m s.number) e) ∙ is in absurd (cc);
}

-- where no state has a copy, all are counted
pub uncopied-none : (n : ℕ) → uncopied no_copies n ≡ n
uncopied-none zero = refl
uncopied-none (suc n) = let h = uncopied-none n in omega arith

pub none_from : (o : Option State) → is_some o ≡ false → o ≡ None
none_from None e = refl
none_from (Some c) e = absurd (cc)

pub some_from : (o : Option State) → is_some o ≡ true → (c : State) × (o ≡ Some c)
some_from None e = absurd (cc)
some_from (Some c) e = (c, refl)
