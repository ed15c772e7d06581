-- What a head names is named.
use Rattle.std.proofs.Common.{◌≡◌, ℕ, Bool, true, false, ◌||◌, nat_eq, List, [], ◌∷◌, ◌++◌, flat_map, refl, ◌∙◌}
use Rattle.std.specs.Cmp.Lexicographic.{pointwise}
use Rattle.std.proofs.lemmas.Bool.{or_right}
use Rattle.xd_doc.specs.Classes.{is_named}
use Rattle.xd_doc.specs.ByteOrder.{in_byte_order}
use Rattle.xd_rules.specs.Heads.{HeadKind}
use Rattle.xd_rules.specs.Listed.{AreAmong}
use Rattle.xd_rules.proofs.NamesInOrder.{order_named}

named_left : (xs ys : List (List ℕ)) (l : List ℕ) → is_named xs l ≡ true → is_named (xs ++ ys) l ≡ true
named_left [] ys l h = cc
named_left (x ∷ xs) ys l h = go (pointwise nat_eq x l) h (λ k. named_left xs ys l k)
  where
    go : (b : Bool) → (b || is_named xs l) ≡ true → (is_named xs l ≡ true → is_named (xs ++ ys) l ≡ true) → (b || is_named (xs ++ ys) l) ≡ true
    go true k f = refl
    go false k f = f k

named_right : (xs ys : List (List ℕ)) (l : List ℕ) → is_named ys l ≡ true → is_named (xs ++ ys) l ≡ true
named_right [] ys l h = h
named_right (x ∷ xs) ys l h = or_right (pointwise nat_eq x l) (is_named (xs ++ ys) l) (named_right xs ys l h)

pub named_among : (f : HeadKind → List (List ℕ)) (before after : List HeadKind) (k : HeadKind) → AreAmong (f k) (in_byte_order (flat_map f (before ++ k ∷ after)))
named_among f before after k l h = order_named (flat_map f (before ++ k ∷ after)) l ∙ go before
  where
    go : (before : List HeadKind) → is_named (flat_map f (before ++ k ∷ after)) l ≡ true
    go [] = named_left (f k) (flat_map f after) l h
    go (b ∷ bs) = named_right (f b) (flat_map f (bs ++ k ∷ after)) l (go bs)
