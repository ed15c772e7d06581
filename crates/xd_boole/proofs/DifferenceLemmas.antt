-- What has been taken away so far, and one more.
use Rattle.std.proofs.Common.{ℕ, ◌+◌, ◌<◌, ◌≡◌, Bool, true, false, not, ◌&&◌, ◌||◌, List, length, take, get_or, refl, sym, ap, ◌∙◌}
use Rattle.std.specs.List.{list_any}
use Rattle.std.proofs.lemmas.List.Folds.{list_any_more}
use Rattle.xd_boole.proofs.Bools.{and_over_left, and_over_right}

-- one more element of a list, on either side
pub right_more : {X : Type 0} (p : X → Bool) (xs : List X) (i : ℕ) (x : X) (s : Bool) → i < length xs → x ≡ get_or xs i x → ((s && list_any p (take i xs)) || (s && p x)) ≡ (s && list_any p (take (i + 1) xs))
right_more p xs i x s lt at =
    and_over_right s (list_any p (take i xs)) (p x) ∙ ap (λ w. s && w) (ap (λ w. list_any p (take i xs) || p w) at ∙ sym (list_any_more p xs i x lt))

pub left_more : {X : Type 0} (p : X → Bool) (xs : List X) (i : ℕ) (x : X) (s : Bool) → i < length xs → x ≡ get_or xs i x → ((list_any p (take i xs) && s) || (p x && s)) ≡ (list_any p (take (i + 1) xs) && s)
left_more p xs i x s lt at =
    and_over_left (list_any p (take i xs)) (p x) s ∙ ap (λ w. w && s) (ap (λ w. list_any p (take i xs) || p w) at ∙ sym (list_any_more p xs i x lt))

pub both_more : {X : Type 0} (p : X → Bool) (xs : List X) (i : ℕ) (x : X) (h s : Bool) → i < length xs → x ≡ get_or xs i x
    → ((h && (s && list_any p (take i xs))) || (h && (s && p x))) ≡ (h && (s && list_any p (take (i + 1) xs)))
both_more p xs i x h s lt at = and_over_right h (s && list_any p (take i xs)) (s && p x) ∙ ap (λ w. h && w) (right_more p xs i x s lt at)

-- a group has a state that accepts all that follows
pub none_taken : (p h s : Bool) → s ≡ true → (p && (h && not s)) ≡ false
none_taken p h s e = ap (λ w. p && (h && not w)) e ∙ go p h
  where
    go : (x y : Bool) → (x && (y && false)) ≡ false
    go true true = refl
    go true false = refl
    go false y = refl
