-- Loops that append an item for each of a list.
use Rattle.std.proofs.Common.{◌≡◌, ℕ, ◌+◌, ◌<◌, ◌≤◌, List, [], ◌∷◌, ◌++◌, drop, length, get_or, append_assoc, append-nil, ap, sym, ◌∙◌}
use Rattle.std.proofs.lemmas.List.{at_drop_more, at_drop_all}

pub item_step : {X Y : Type 0} (F : List X → List Y) (p : Y) (xs : List X) (i : ℕ) (x : X) (made all : List Y) → i < length xs → x ≡ get_or xs i x →
    F (x ∷ drop (i + 1) xs) ≡ p ∷ F (drop (i + 1) xs) → made ++ F (drop i xs) ≡ all → (made ++ p ∷ []) ++ F (drop (i + 1) xs) ≡ all
item_step F p xs i x made all h e f k =
    append_assoc made (p ∷ []) (F (drop (i + 1) xs))
    ∙ ap (λ ys. made ++ ys) (sym f)
    ∙ ap (λ y. made ++ F (y ∷ drop (i + 1) xs)) e
    ∙ sym (at_drop_more (λ ys. made ++ F ys) xs i x h)
    ∙ k

pub items_done : {X Y : Type 0} (F : List X → List Y) (xs : List X) (i : ℕ) (made all : List Y) → F [] ≡ [] → length xs ≤ i → made ++ F (drop i xs) ≡ all → made ≡ all
items_done F xs i made all f h k = sym (append-nil made) ∙ ap (λ ys. made ++ ys) (sym f) ∙ sym (at_drop_all (λ ys. made ++ F ys) xs i h) ∙ k
