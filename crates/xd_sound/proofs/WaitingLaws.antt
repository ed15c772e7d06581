-- Numbers in two lists, the first in order: what a number that comes or goes leaves.
use Rattle.std.proofs.Common.{◌≡◌, ℕ, ◌-◌, ◌<◌, ◌≤◌, List, [], ◌∷◌, ◌++◌, length, get_or, Option, None, Some, Bor, refl, subst, sym, ap, ◌∙◌, append_assoc, arith}
use Rattle.std.specs.BinaryHeap.{IsUpperBound}
use Rattle.std.specs.List.{All}
use Rattle.std.specs.Option.{IfSome, IsSome, option_copied, option_to_list}
use Rattle.std.specs.List.Sorted.{IsNonDecreasing, IsPermutation}
use Rattle.std.specs.Ordering.{nat_cmp}
use Rattle.std.proofs.lemmas.List.{get_or_push, length_push}
use Rattle.std.proofs.lemmas.List.Elements.{All-append, All-nil, All-from_get_or, All-pop, All-weaker}
use Rattle.std.proofs.lemmas.List.Sorted.{IsPermutation-append_right, IsPermutation-middle, IsPermutation-to_front, IsPermutation-trans, le_from_greatest}

-- the last is the greatest
pub last_greatest : (xs : List ℕ) (x : ℕ) → IsNonDecreasing xs → (0 < length xs → get_or xs (length xs - 1) 0 ≤ x) → All (λ y. y ≤ x) xs
last_greatest xs x s h = All-from_get_or (λ y. y ≤ x) xs 0 (λ i l. (let a = s i (length xs - 1) 0 (omega arith) (omega arith) in let b = h (omega arith) in omega arith))

pub pushed_last : (xs ys : List ℕ) (x : ℕ) → IsPermutation ((xs ++ ys) ++ x ∷ []) ((xs ++ x ∷ []) ++ ys)
pushed_last xs ys x =
    let P : List ℕ → Type 0 = λ l. IsPermutation l ((xs ++ x ∷ []) ++ ys) in
    let Q : List ℕ → Type 0 = λ r. IsPermutation (xs ++ (ys ++ x ∷ [])) r in
    subst P (sym (append_assoc xs ys (x ∷ []))) (subst Q (sym (append_assoc xs (x ∷ []) ys)) (IsPermutation-append_right xs (ys ++ x ∷ []) (x ∷ ys) (IsPermutation-to_front ys x)))

pub pushed_other : (xs ys zs : List ℕ) (x : ℕ) → IsPermutation (x ∷ ys) zs → IsPermutation ((xs ++ ys) ++ x ∷ []) (xs ++ zs)
pushed_other xs ys zs x h =
    let P : List ℕ → Type 0 = λ l. IsPermutation l (xs ++ zs) in
    subst P (sym (append_assoc xs ys (x ∷ []))) (IsPermutation-append_right xs (ys ++ x ∷ []) zs (IsPermutation-trans (ys ++ x ∷ []) (x ∷ ys) zs (IsPermutation-to_front ys x) h))

pub popped_other : (xs ys zs : List ℕ) (x : ℕ) → IsPermutation ys (x ∷ zs) → IsPermutation (xs ++ ys) (x ∷ (xs ++ zs))
popped_other xs ys zs x h = IsPermutation-trans (xs ++ ys) (xs ++ x ∷ zs) (x ∷ (xs ++ zs)) (IsPermutation-append_right xs ys (x ∷ zs) h) (IsPermutation-middle xs x zs)

popped : (xs ys : List ℕ) (x : ℕ) → IsPermutation ((xs ++ x ∷ []) ++ ys) (x ∷ (xs ++ ys))
popped xs ys x =
    let P : List ℕ → Type 0 = λ l. IsPermutation l (x ∷ (xs ++ ys)) in
    subst P (sym (append_assoc xs (x ∷ []) ys)) (IsPermutation-middle xs x ys)

-- the last goes
pub popped_last : (xs new ys whole : List ℕ) (r : Option ℕ) → xs ++ ys ≡ whole → xs ≡ new ++ option_to_list r → IfSome r (λ x. IsPermutation whole (x ∷ (new ++ ys)))
popped_last xs new ys whole None w e = tt
popped_last xs new ys whole (Some x) w e =
    let P : List ℕ → Type 0 = λ l. IsPermutation l (x ∷ (new ++ ys)) in
    subst P (ap (λ l. l ++ ys) (sym e) ∙ w) (popped new ys x)

last_of : (xs : List ℕ) (x : ℕ) → get_or (xs ++ x ∷ []) (length (xs ++ x ∷ []) - 1) 0 ≡ x
last_of xs x = let n = length_push xs x in get_or_push xs x 0 (length (xs ++ x ∷ []) - 1) (omega arith)

pub greatest_last : (xs new ys : List ℕ) (r : Option ℕ) → IsNonDecreasing xs → All (λ y. y ≤ get_or xs (length xs - 1) 0) ys → xs ≡ new ++ option_to_list r → IfSome r (λ x. All (λ y. y ≤ x) (new ++ ys))
greatest_last xs new ys None s h e = tt
greatest_last xs new ys (Some x) s h e =
    let l : get_or xs (length xs - 1) 0 ≡ x = ap (λ zs. get_or zs (length zs - 1) 0) e ∙ last_of new x in
    let a = last_greatest xs x s (λ n. omega arith) in
    All-append (λ y. y ≤ x) new ys (All-pop (λ y. y ≤ x) xs new (Some x) e a).0 (All-weaker (λ y. y ≤ get_or xs (length xs - 1) 0) (λ y. y ≤ x) (λ y b. omega arith) ys h)

pub copied_some : (r : Option (Bor ℕ)) (x : ℕ) (P : ℕ → Type 0) → option_copied r ≡ Some x → IfSome r (λ y. P y.now) → P x
copied_some None x P e h = absurd cc
copied_some (Some y) x P e h = let k : y.now ≡ x = cc in subst P k h

pub copied_is : (r : Option (Bor ℕ)) (x : ℕ) → option_copied r ≡ Some x → IsSome r
copied_is None x e = absurd cc
copied_is (Some y) x e = refl

pub copied_none : (r : Option (Bor ℕ)) (ys : List ℕ) → option_copied r ≡ None → (0 < length ys → IsSome r) → (P : ℕ → Type 0) → All P ys
copied_none r [] e h P = All-nil P
copied_none None (y ∷ ys) e h P = let k = h (omega arith) in absurd cc
copied_none (Some x) (y ∷ ys) e h P = absurd cc

-- the first of the others is the greatest of all
pub greatest_other : (xs ys new : List ℕ) (top : ℕ) (r : Option ℕ) → All (λ y. y ≤ top) xs → 0 < length ys → top ≡ get_or ys 0 top →
    IfSome r (λ x. x ≡ get_or ys 0 x) → IfSome r (λ x. IsUpperBound nat_cmp x new) → IfSome r (λ x. All (λ y. y ≤ x) (xs ++ new))
greatest_other xs [] new top r a l t h g = absurd (omega arith)
greatest_other xs (z ∷ ys) new top None a l t h g = tt
greatest_other xs (z ∷ ys) new top (Some x) a l t h g =
    let e : top ≡ x = t ∙ sym h in
    All-append (λ y. y ≤ x) xs new (All-weaker (λ y. y ≤ top) (λ y. y ≤ x) (λ y b. omega arith) xs a) (le_from_greatest x new g)
