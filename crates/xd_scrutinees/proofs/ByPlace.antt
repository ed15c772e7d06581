-- Items in order of their places.
use Rattle.std.proofs.Common.{◌≡◌, ℕ, Bool, true, false, cond, ◌&&◌, ◌||◌, nat_lt, nat_eq, List, [], ◌∷◌, arith, refl, ap, ◌∙◌}
use Rattle.std.specs.List.{AllZip}
use Rattle.std.specs.Ordering.{is_lt, nat_cmp, ordering_then}
use Rattle.std.specs.Cmp.{IsTotalOrder, IsStrictWeakOrder, nat_cmp_total, on_total, then_total}
use Rattle.std.specs.List.Sorted.{IsSortedBy, IsStableBy}
use Rattle.std.proofs.lemmas.List.Sorted.{ranks_by}
use Rattle.std.proofs.lemmas.Bool.Decides.{nat_tests}
use Rattle.xd_base.specs.declared.Place.{Place}
use Rattle.xd_syntax.specs.Order.{is_earlier, ordered, ordered_after, put_in}
use Rattle.xd_syntax.proofs.OrderedLemmas.{put_all_sorted}
use Rattle.xd_check_steps.proofs.Ranks.{place_cmp}

places_total : IsTotalOrder place_cmp
places_total = then_total (on_total (λ (p : Place). p.line) nat_cmp_total) (on_total (λ (p : Place). p.column) nat_cmp_total)

less_places : (a b c d : ℕ) → is_lt (ordering_then (nat_cmp a b) (nat_cmp c d)) ≡ (nat_lt a b || (nat_eq a b && nat_lt c d))
less_places a b c d = grind (arith, nat_tests)

module _ {X : Type 0} (place : X → Place) where
  abbrev pub is_less : X → X → Bool
  is_less x y = is_lt (place_cmp (place x) (place y))

  abbrev pub stands_before : X → X → Bool
  stands_before x y = is_earlier (place x) (place y)

  is_less_weak : IsStrictWeakOrder is_less
  is_less_weak = ranks_by places_total place

  same_put : (x : X) (ys : List X) → put_in is_less x ys ≡ put_in stands_before x ys
  same_put x [] = refl
  same_put x (y ∷ ys) =
      let a : is_less x y ≡ stands_before x y = less_places (place x).line (place y).line (place x).column (place y).column in
      ap (λ t. cond (is_less x y) (x ∷ (y ∷ ys)) (y ∷ t)) (same_put x ys) ∙ ap (λ b. cond b (x ∷ (y ∷ ys)) (y ∷ put_in stands_before x ys)) a

  same_put_all : (done xs : List X) → ordered_after is_less done xs ≡ ordered_after stands_before done xs
  same_put_all done [] = refl
  same_put_all done (x ∷ xs) = ap (λ d. ordered_after is_less d xs) (same_put x done) ∙ same_put_all (put_in stands_before x done) xs

  -- a stable sort by place
  pub sorted_by_place : (xs ys : List X) → IsSortedBy is_less ys → IsStableBy is_less xs ys → ys ≡ ordered stands_before xs
  sorted_by_place xs ys s t = put_all_sorted is_less is_less_weak xs ys s t ∙ same_put_all [] xs

-- items and what belongs to them are put in order in the same way
module _ {A B : Type 0} (R : A → B → Type 0) (f : A → A → Bool) (g : B → B → Bool) (same : (m n : A) (x y : B) → R m x → R n y → g x y ≡ f m n) where
  put_both : (m : A) (x : B) → R m x → (ms : List A) (xs : List B) → AllZip R ms xs → AllZip R (put_in f m ms) (put_in g x xs)
  put_both m x h [] [] k = (h, tt)
  put_both m x h [] (y ∷ ys) k = absurd k
  put_both m x h (n ∷ ns) [] k = absurd k
  put_both m x h (n ∷ ns) (y ∷ ys) k = go (f m n) (g x y) (same m n x y h k.0) (put_both m x h ns ys k.1)
    where
      go : (b c : Bool) → c ≡ b → AllZip R (put_in f m ns) (put_in g x ys) → AllZip R (cond b (m ∷ (n ∷ ns)) (n ∷ put_in f m ns)) (cond c (x ∷ (y ∷ ys)) (y ∷ put_in g x ys))
      go true true e r = (h, k)
      go false false e r = (k.0, r)
      go true false e r = absurd (cc)
      go false true e r = absurd (cc)

  put_all_both : (done ms : List A) (got xs : List B) → AllZip R done got → AllZip R ms xs → AllZip R (ordered_after f done ms) (ordered_after g got xs)
  put_all_both done [] got [] h k = h
  put_all_both done [] got (x ∷ xs) h k = absurd k
  put_all_both done (m ∷ ms) got [] h k = absurd k
  put_all_both done (m ∷ ms) got (x ∷ xs) h k = put_all_both (put_in f m done) ms (put_in g x got) xs (put_both m x k.0 done got h) k.1

  pub ordered_both : (ms : List A) (xs : List B) → AllZip R ms xs → AllZip R (ordered f ms) (ordered g xs)
  ordered_both ms xs h = put_all_both [] ms [] xs tt h
