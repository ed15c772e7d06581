-- The index of a state's moves by what their classes name.
use Rattle.std.proofs.Common.{ℕ, ◌+◌, ◌-◌, ◌<◌, ◌≤◌, ◌≡◌, ◌⊎◌, inl, inr, Bool, true, false, ◌||◌, cond, not, List, [], ◌∷◌, ◌++◌, Option, Some, IsSome, Vec, length, take, get_or, ltb, length-append, arith, ap, refl, sym, subst, ◌∙◌}
use Rattle.std.specs.List.{Contains, list_any}
use Rattle.std.specs.List.Sorted.{IsNonDecreasing, IsPartitionPoint}
use Rattle.std.specs.Ordering.{is_eq, nat_cmp}
use Rattle.std.specs.Cmp.Lexicographic.{slice_cmp}
use Rattle.std.proofs.lemmas.Map.Text.{is_eq-slice_cmp}
use Rattle.xd_doc.specs.Classes.{NameClass, class_has, is_named}
use Rattle.std.specs.declared.cmp.Ordering.{Ordering}
use Rattle.std.specs.BTreeMap.{BTreeMap, UpdatesBy, get}
use Rattle.std.proofs.lemmas.Map.Lookups.{CmpEqualImpliesEq}
use Rattle.std.proofs.lemmas.Map.Views.{tells_apart}
use Rattle.std.proofs.lemmas.List.{get_or_append_left, get_or_default}
use Rattle.std.proofs.lemmas.Grind.{get_or_default_zero}
use Rattle.std.proofs.lemmas.Bool.{ltb-true}
use Rattle.std.proofs.lemmas.List.Elements.{All-weaker, All-push, All-nil, Contains-append_left, Contains-push}
use Rattle.std.proofs.lemmas.List.Folds.{list_any_more}
use Rattle.std.proofs.lemmas.List.Sorted.{IsNonDecreasingBy-push}
use Rattle.xd_auto.specs.Index.{AddsTo, IsIndex, RisesTo, numbers_at, numbers_of}

pub RisesTo-nil : RisesTo 0 []
RisesTo-nil = record { rises = λ i j d le lt. absurd (omega arith); most = All-nil (λ k. k ≤ 0) }

pub RisesTo-push : (n : ℕ) (xs : List ℕ) → RisesTo n xs → RisesTo n (xs ++ n ∷ [])
RisesTo-push n xs h = record {
  rises = IsNonDecreasingBy-push (λ x. x) xs n h.rises (λ d some. h.most (length xs - 1) d (omega arith));
  most = All-push (λ k. k ≤ n) xs n h.most (omega arith);
}

pub RisesTo-more : (n : ℕ) (xs : List ℕ) → RisesTo n xs → RisesTo (n + 1) xs
RisesTo-more n xs h = record { rises = h.rises; most = All-weaker (λ k. k ≤ n) (λ k. k ≤ n + 1) (λ k p. omega arith) xs h.most }

pub AddsTo-same : (n : ℕ) (xs : List ℕ) → AddsTo n xs xs
AddsTo-same n xs = record { keeps = λ k h. h; rises = λ h. h }

pub AddsTo-push : (n : ℕ) (xs : List ℕ) → AddsTo n xs (xs ++ n ∷ [])
AddsTo-push n xs = record { keeps = λ k h. Contains-append_left xs (n ∷ []) k h; rises = RisesTo-push n xs }

pub AddsTo-is : (n : ℕ) (xs ys : List ℕ) → ys ≡ xs → AddsTo n xs ys
AddsTo-is n xs ys e = subst (λ (zs : List ℕ). AddsTo n xs zs) (sym e) (AddsTo-same n xs)

pub AddsTo-then : (n : ℕ) (xs ys zs : List ℕ) → AddsTo n xs ys → AddsTo n ys zs → AddsTo n xs zs
AddsTo-then n xs ys zs h k = record { keeps = λ m c. k.keeps m (h.keeps m c); rises = λ r. k.rises (h.rises r) }

pub AddsTo-if : (n : ℕ) (b : Bool) (xs ys : List ℕ) → ys ≡ cond b (xs ++ n ∷ []) xs → AddsTo n xs ys
AddsTo-if n true xs ys e = subst (λ (zs : List ℕ). AddsTo n xs zs) (sym e) (AddsTo-push n xs)
AddsTo-if n false xs ys e = AddsTo-is n xs ys e

-- a number that is put under a name stands there, and still stands where it stood
pub stands_more : {N : Type 0} (R : N → N → Ordering) (n : ℕ) (names : List N) (i : ℕ) (name q : N) (old new : List ℕ) → i < length names → name ≡ get_or names i name
    → new ≡ cond (is_eq (R name q)) (old ++ n ∷ []) old → (list_any (λ x. is_eq (R x q)) (take i names) ≡ true → Contains old n)
    → list_any (λ x. is_eq (R x q)) (take (i + 1) names) ≡ true → Contains new n
stands_more {N} R n names i name q old new lt at is before named =
    go (is_eq (R name q)) is (list_any (λ x. is_eq (R x q)) (take i names)) before
    (ap (λ x. list_any (λ y. is_eq (R y q)) (take i names) || is_eq (R x q)) at ∙ sym (list_any_more (λ x. is_eq (R x q)) names i name lt) ∙ named)
  where
    go : (b : Bool) → new ≡ cond b (old ++ n ∷ []) old → (o : Bool) → (o ≡ true → Contains old n) → (o || b) ≡ true → Contains new n
    go true e o h any = subst (λ (zs : List ℕ). Contains zs n) (sym e) (Contains-push old n)
    go false e true h any = subst (λ (zs : List ℕ). Contains zs n) (sym e) (h refl)
    go false e false h any = absurd (cc)

module _ {N A : Type 0} (R : N → N → Ordering) (exact : CmpEqualImpliesEq R) (m n : BTreeMap N (Vec ℕ A)) (l : N) (w : Vec ℕ A) where
  numbers_updated : UpdatesBy R (R l) m n (Some w) → (q : N) → numbers_at R n q ≡ cond (is_eq (R l q)) w.items (numbers_at R m q)
  numbers_updated u q = ap numbers_of (u.0 q) ∙ apart (is_eq (R l q))
    where
      apart : (b : Bool) → numbers_of (cond b (Some w) (get R m q)) ≡ cond b w.items (numbers_at R m q)
      apart true = refl
      apart false = refl

  numbers_here : (old : List ℕ) → numbers_at R m l ≡ old → (q : N) → is_eq (R l q) ≡ true → numbers_at R m q ≡ old
  numbers_here old is q e = ap (numbers_at R m) (sym (tells_apart exact l q e)) ∙ is

  pub numbers_kept : UpdatesBy R (R l) m n (Some w) → numbers_at R m l ≡ w.items → (q : N) → numbers_at R n q ≡ numbers_at R m q
  numbers_kept u is q = numbers_updated u q ∙ go (is_eq (R l q)) refl
    where
      go : (b : Bool) → is_eq (R l q) ≡ b → cond b w.items (numbers_at R m q) ≡ numbers_at R m q
      go true e = sym (numbers_here w.items is q e)
      go false e = refl

  pub numbers_put : UpdatesBy R (R l) m n (Some w) → (old : List ℕ) (number : ℕ) → numbers_at R m l ≡ old → w.items ≡ old ++ number ∷ []
      → (q : N) → numbers_at R n q ≡ cond (is_eq (R l q)) (numbers_at R m q ++ number ∷ []) (numbers_at R m q)
  numbers_put u old number is more q = numbers_updated u q ∙ go (is_eq (R l q)) refl
    where
      go : (b : Bool) → is_eq (R l q) ≡ b → cond b w.items (numbers_at R m q) ≡ cond b (numbers_at R m q ++ number ∷ []) (numbers_at R m q)
      go true e = more ∙ ap (λ xs. xs ++ number ∷ []) (sym (numbers_here old is q e))
      go false e = refl

module _ {M N : Type 0} (has : M → N → Bool) (moves : List M) (n : ℕ) (named : N → List ℕ) (others : List ℕ) where
  pub IsIndex-kept : (named' : N → List ℕ) (others' : List ℕ) → IsIndex has moves n named others → ((q : N) → AddsTo n (named q) (named' q))
      → AddsTo n others others' → IsIndex has moves n named' others'
  IsIndex-kept named' others' h k o = record {
    within = h.within;
    named_rise = λ q. (k q).rises (h.named_rise q);
    others_rise = o.rises h.others_rise;
    listed = λ m d l lt takes. elim (h.listed m d l lt takes) [ inl c ↦ inl ((k l).keeps m c) | inr c ↦ inr (o.keeps m c) ];
  }

  pub IsIndex-more : IsIndex has moves n named others → n < length moves
      → ((d : M) (q : N) → has (get_or moves n d) q ≡ true → Contains (named q) n ⊎ Contains others n)
      → IsIndex has moves (n + 1) named others
  IsIndex-more h lt new = record {
    within = omega arith;
    named_rise = λ q. RisesTo-more n (named q) (h.named_rise q);
    others_rise = RisesTo-more n others h.others_rise;
    listed = λ m d l below takes. elim (last m below) [
      | inl old ↦ h.listed m d l old takes
      | inr e ↦ subst (λ w. Contains (named l) w ⊎ Contains others w) (sym e) (new d l (subst (λ w. has (get_or moves w d) l ≡ true) e takes))
    ];
  }
    where
      last : (m : ℕ) → m < n + 1 → (m < n) ⊎ (m ≡ n)
      last m below = grind arith

  pub IsIndex-push : (m : M) → IsIndex has moves n named others → IsIndex has (moves ++ m ∷ []) n named others
  IsIndex-push m h = record {
    within = omega (arith, length_more);
    named_rise = h.named_rise;
    others_rise = h.others_rise;
    listed = λ k d l lt takes. h.listed k d l lt (subst (λ w. has w l ≡ true) (get_or_append_left moves (m ∷ []) d k (omega (arith, h.within))) takes);
  }
    where
      length_more : length moves ≤ length (moves ++ m ∷ [])
      length_more = omega (arith, length-append moves (m ∷ []))

pub IsIndex-none : {M N : Type 0} (has : M → N → Bool) (moves : List M) (named : N → List ℕ) (others : List ℕ) → ((q : N) → named q ≡ []) → others ≡ [] → IsIndex has moves 0 named others
IsIndex-none has moves named others e o = record {
  within = omega arith;
  named_rise = λ q. subst (λ (xs : List ℕ). RisesTo 0 xs) (sym (e q)) RisesTo-nil;
  others_rise = subst (λ (xs : List ℕ). RisesTo 0 xs) (sym o) RisesTo-nil;
  listed = λ k d l lt takes. absurd (omega arith);
}

pub is_some_found : {X : Type 0} (x : X) (o : Option X) → Some x ≡ o → IsSome o
is_some_found {X} x o e = subst (λ (w : Option X). IsSome w) e refl

module _ (numbers : List ℕ) where
  -- of numbers that rise, those below the one at a place stand before it
  pub stands_before : (i k : ℕ) → IsNonDecreasing numbers → (c : Contains numbers k) → k < get_or numbers i 0 → c.0 < i
  stands_before i k rises c lt = apart i c.0 k (get_or numbers i 0) (get_or numbers c.0 0) (λ le. rises i c.0 0 le c.1) (sym (get_or_default_zero numbers c.0 k c.1) ∙ c.2) lt
    where
      apart : (i j k x y : ℕ) → (i ≤ j → x ≤ y) → y ≡ k → k < x → j < i
      apart i j k x y h e lt = grind arith

  pub lists_lack : {M N : Type 0} (has : M → N → Bool) (moves : List M) (l : N) (from start place : ℕ) → IsPartitionPoint (λ y. ltb y from ≡ true) (λ y. ltb y from ≡ false) numbers start
      → ((i : ℕ) (d : M) → start ≤ i → i < place → get_or numbers i 0 < length moves → has (get_or moves (get_or numbers i 0) d) l ≡ false)
      → (k : ℕ) (d : M) → (c : Contains numbers k) → from ≤ k → c.0 < place → k < length moves → has (get_or moves k d) l ≡ false
  lists_lack has moves l from start place parts passed k d c low before lt =
      let e : get_or numbers c.0 0 ≡ k = sym (get_or_default_zero numbers c.0 k c.1) ∙ c.2 in
      subst (λ w. has (get_or moves w d) l ≡ false) e
      (passed c.0 d (apart c.0 start (get_or numbers c.0 0) k (λ b. ltb-true (get_or numbers c.0 0) from (parts.0 c.0 0 (omega arith) b)) e low) before (omega arith))
    where
      apart : (i start x k : ℕ) → (i < start → x < from) → x ≡ k → from ≤ k → start ≤ i
      apart i start x k h e low = grind arith

pub index_step : {M N : Type 0} (has : M → N → Bool) (moves : List M) (n : ℕ) (named : N → List ℕ) (others : List ℕ) (named' : N → List ℕ) (others' : List ℕ) (step : M)
    → IsIndex has moves n named others → n < length moves → step ≡ get_or moves n step → ((q : N) → AddsTo n (named q) (named' q)) → AddsTo n others others'
    → ((q : N) → has step q ≡ true → Contains (named' q) n ⊎ Contains others' n) → IsIndex has moves (n + 1) named' others'
index_step has moves n named others named' others' step h lt is k o new =
    IsIndex-more has moves n named' others' (IsIndex-kept has moves n named others named' others' h k o) lt
    (λ d q takes. new q (subst (λ w. has w q ≡ true) (get_or_default moves n d step lt ∙ sym is) takes))

-- what a class that takes no others has stands among its names
named_by : (names : List (List ℕ)) (x : List ℕ) → list_any (λ name. is_eq (slice_cmp nat_cmp name x)) names ≡ is_named names x
named_by [] x = refl
named_by (name ∷ names) x = rw (is_eq-slice_cmp name x, named_by names x) refl

pub class_names : (c : NameClass) (x : List ℕ) → c.except ≡ false → class_has c x ≡ true → list_any (λ name. is_eq (slice_cmp nat_cmp name x)) c.names ≡ true
class_names c x plain has = named_by c.names x ∙ go c.except (is_named c.names x) plain has
  where
    go : (e n : Bool) → e ≡ false → cond e (not n) n ≡ true → n ≡ true
    go true n plain has = absurd (cc)
    go false n plain has = has
