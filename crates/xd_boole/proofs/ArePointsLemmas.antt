-- On lists with one more element, and on points with the same key.
use Rattle.std.proofs.Common.{ℕ, ◌<◌, ◌≡◌, List, [], ◌∷◌, ◌++◌, map, length, get_or, ◌⊎◌, inl, inr, refl, ap, ◌∙◌, arith, length-append}
use Rattle.std.proofs.lemmas.Bool.{cases_lt}
use Rattle.std.proofs.lemmas.List.{get_or_append_left}
use Rattle.std.proofs.Math.Seq.{get_or-append_seam}
use Rattle.xd_auto.specs.declared.auto.State.{State}
use Rattle.xd_boole.specs.Meaning.{PointView, less}
use Rattle.xd_boole.specs.Points.{point_key}

-- the places of a list with one more element
pub place_cases : {X : Type 0} (xs ys : List X) (x : X) (i : ℕ) → ys ≡ xs ++ x ∷ [] → i < length ys → (i < length xs) ⊎ (i ≡ length xs)
place_cases xs ys x i is lt =
    let n = ap length is in
    elim (cases_lt i (length xs)) [ inl h ↦ inl h | inr h ↦ inr (omega (arith, length-append xs (x ∷ []), n)) ]

pub at_front : {X : Type 0} (xs ys : List X) (x d : X) (i : ℕ) → ys ≡ xs ++ x ∷ [] → i < length xs → get_or ys i d ≡ get_or xs i d
at_front xs ys x d i is lt = ap (λ w. get_or w i d) is ∙ get_or_append_left xs (x ∷ []) d i lt

pub at_end : {X : Type 0} (xs ys : List X) (x d : X) (i : ℕ) → ys ≡ xs ++ x ∷ [] → i ≡ length xs → get_or ys i d ≡ x
at_end xs ys x d i is e = ap (λ w. get_or w i d) is ∙ ap (λ w. get_or (xs ++ x ∷ []) w d) e ∙ get_or-append_seam xs x [] d

pub map_number : (xs ys : List State) → map (λ (s : State). s.number) xs ≡ map (λ (s : State). s.number) ys → xs ≡ ys
map_number [] [] e = refl
map_number [] (y ∷ ys) e = absurd (cc)
map_number (x ∷ xs) [] e = absurd (cc)
map_number (x ∷ xs) (y ∷ ys) e =
    let first : x.number ≡ y.number = cc in
    let more : map (λ (s : State). s.number) xs ≡ map (λ (s : State). s.number) ys = cc in
    let x_is : x ≡ y = ap (λ n. record { number = n }) first in
    let xs_is : xs ≡ ys = map_number xs ys more in
    cc

-- points with the same key
pub same_point : (p q : PointView) → point_key p ≡ point_key q → p ≡ q
same_point p q e =
    let first : p.left.number ≡ q.left.number = cc in
    let more : map (λ (s : State). s.number) p.rights ≡ map (λ (s : State). s.number) q.rights = cc in
    let lefts : p.left ≡ q.left = ap (λ n. record { number = n }) first in
    ap (λ l. less l p.rights) lefts ∙ ap (λ r. less q.left r) (map_number p.rights q.rights more)
