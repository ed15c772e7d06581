-- Lists that have the same at each place.
use Rattle.std.proofs.Common.{◌≡◌, ℕ, zero, suc, ◌+◌, ◌<◌, ◌≤◌, nat_eq, Bool, false, ◌-◌, ◌++◌, take, sym, ap, ◌∙◌, List, [], ◌∷◌, length, get_or, refl, arith, Result, Ok, Err}
use Rattle.std.specs.Result.{IfOk, OnOk}
use Rattle.std.proofs.lemmas.List.{take_more}
use Rattle.std.proofs.lemmas.Bool.Decides.{nat_tests}
use Rattle.xd_doc.proofs.Lists.{same_at}

pub same_at_each : {A : Type 0} (xs ys : List A) → length xs ≡ length ys → ((k : ℕ) (d : A) → k < length xs → get_or xs k d ≡ get_or ys k d) → xs ≡ ys
same_at_each [] [] l h = refl
same_at_each [] (y ∷ ys) l h = absurd (omega arith)
same_at_each (x ∷ xs) [] l h = absurd (omega arith)
same_at_each (x ∷ xs) (y ∷ ys) l h =
    let z : 0 < length (x ∷ xs) = omega arith in
    let e : x ≡ y = h 0 x z in
    let m : length xs ≡ length ys = omega arith in
    let i = same_at_each xs ys m (λ k d b. let c : suc k < length (x ∷ xs) = omega arith in h (suc k) d c) in cc

pub two_or_more : (n : ℕ) (b : Bool) → b ≡ nat_eq n 0 → b ≡ false → (n ≡ 1 → ⊥) → 2 ≤ n
two_or_more zero b e f g = cc
two_or_more (suc zero) b e f g = absurd (g refl)
two_or_more (suc (suc n)) b e f g = omega arith

pub ok_map : {T E : Type 0} (r : Result T E) (P Q : T → Type 0) → ((x : T) → P x → Q x) → IfOk r P → IfOk r Q
ok_map (Ok x) P Q f h = f x h
ok_map (Err e) P Q f h = tt

pub not_zero : (n : ℕ) (b : Bool) → b ≡ nat_eq n 0 → b ≡ false → 0 < n
not_zero zero b e f = cc
not_zero (suc n) b e f = omega arith

pub end_of : {A : Type 0} (p q d e : List A) (k : ℕ) → d ≡ p → e ≡ q → d ≡ take (length d - length e) d ++ e → k ≡ length p - length q → p ≡ take k p ++ q
end_of p q d e k f g h i =
    sym f ∙ h ∙ ap (λ x. take (length x - length e) x ++ e) f ∙ ap (λ x. take (length p - length x) p ++ x) g ∙ ap (λ n. take n p ++ q) (sym i)

pub on_map : {T E : Type 0} (r : Result T E) (P Q : Type 0) → (P → Q) → OnOk r P → OnOk r Q
on_map (Ok x) P Q f h = f h
on_map (Err e) P Q f h = tt

-- one more, as it was read
pub take_read : {A : Type 0} (xs : List A) (i : ℕ) (x : A) → i < length xs → x ≡ get_or xs i x → take (i + 1) xs ≡ take i xs ++ x ∷ []
take_read xs i x l e = take_more xs i x l ∙ ap (λ y. take i xs ++ y ∷ []) (sym e)

pub got : {A : Type 0} (xs : List A) (k : ℕ) (d : A) → k < length xs → get_or xs k d ≡ get_or xs k (get_or xs k d)
got xs k d l = same_at xs k d (get_or xs k d) l

pub differs : (m n : ℕ) → (m ≡ n → ⊥) → nat_eq m n ≡ false
differs m n h = grind (arith, nat_tests)
