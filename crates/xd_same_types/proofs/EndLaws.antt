-- Laws of alternatives that end in the same parts.
use Rattle.std.proofs.Common.{◌≡◌, ◌⊎◌, inl, inr, ℕ, zero, suc, ◌-◌, Bool, true, false, ◌&&◌, refl, sym, ap, ◌∙◌, List, [], ◌∷◌, ◌++◌, take, drop, length}
use Rattle.std.proofs.lemmas.List.{take-append-drop}
use Rattle.std.specs.List.{AllByRecursion}
use Rattle.xd_doc.specs.Document.{Document}
use Rattle.xd_doc.proofs.Lists.{drop_whole}
use Rattle.xd_syntax.specs.Tree.{Tree, Seq, Alt, seq_of}
use Rattle.xd_syntax.specs.Table.{Row, tree_at}
use Rattle.xd_syntax.specs.Types.{BelongsTo, tree}
use Rattle.xd_syntax.specs.declared.types.TypeId.{TypeId}
use Rattle.xd_same_types.specs.Grown.{GrowsTypes}
use Rattle.xd_same_types.specs.Same.{Meaning, FitsAs, MeansSame, AreSeqParts, trees, tops_only}
use Rattle.xd_same_types.proofs.Laws.{alt_same, same_at, same_back, same_of, same_then, seq_append, seq_same}
use Rattle.xd_same_types.proofs.Tables.{kept_tree, kept_trees, seq_belong, trees_append}

and_over : (a b c : Bool) → ((a && b) && c) ≡ ((a && c) && (b && c))
and_over true true true = refl
and_over true true false = refl
and_over true false true = refl
and_over true false false = refl
and_over false b c = refl

-- one of two in front of a third is the first in front of it, or the second
pub alt_before : (T U V : Tree) → MeansSame (Seq (Alt T U) V) (Alt (Seq T V) (Seq U V))
alt_before T U V = record { both = λ N d. (λ f. to N d f, λ f. back N d f); tops = λ known. and_over (tops_only known T) (tops_only known U) (tops_only known V) }
  where
    to : (N : Meaning) (d : Document) → FitsAs N (Seq (Alt T U) V) d → FitsAs N (Seq T V) d ⊎ FitsAs N (Seq U V) d
    to N d f = by_front f.3
      where
        by_front : FitsAs N T f.0 ⊎ FitsAs N U f.0 → FitsAs N (Seq T V) d ⊎ FitsAs N (Seq U V) d
        by_front (inl g) = inl (f.0, f.1, f.2, g, f.4)
        by_front (inr g) = inr (f.0, f.1, f.2, g, f.4)

    back : (N : Meaning) (d : Document) → FitsAs N (Seq T V) d ⊎ FitsAs N (Seq U V) d → FitsAs N (Seq (Alt T U) V) d
    back N d (inl f) = (f.0, f.1, f.2, inl f.3, f.4)
    back N d (inr f) = (f.0, f.1, f.2, inr f.3, f.4)

pub before_joined : (F M T U V : Tree) → MeansSame F (Alt T U) → MeansSame M (Seq F V) → MeansSame M (Alt (Seq T V) (Seq U V))
before_joined F M T U V f m = same_then m (same_then (seq_same f (same_of refl)) (alt_before T U V))

pub all_drop : {A : Type 0} (P : A → Type 0) (n : ℕ) (xs : List A) → AllByRecursion P xs → AllByRecursion P (drop n xs)
all_drop P zero xs h = h
all_drop P (suc n) [] h = tt
all_drop P (suc n) (x ∷ xs) h = all_drop P n xs h.1

-- the first parts of a sequence and the last ones
pub split_parts : (a m b : List Row) → GrowsTypes a m → GrowsTypes m b → (parts : List TypeId) (k : ℕ) (id ahead end : TypeId) → AreSeqParts a parts → seq_of (trees a parts) ≡ tree a id → BelongsTo m ahead →
    tree m ahead ≡ seq_of (trees a (take k parts)) → tree b end ≡ seq_of (trees m (drop k parts)) → MeansSame (Seq (tree b ahead) (tree b end)) (tree a id)
split_parts a m b am mb parts k id ahead end h e l f g =
    let first = seq_of (trees a (take k parts)) in
    let last = seq_of (trees a (drop k parts)) in
    let front : tree b ahead ≡ first = kept_tree m b mb ahead l ∙ f in
    let behind : tree b end ≡ last = g ∙ ap seq_of (kept_trees a m am (drop k parts) (all_drop (BelongsTo a) k parts (seq_belong a parts h))) in
    let whole : tree a id ≡ seq_of (trees a (take k parts) ++ trees a (drop k parts)) =
    sym e ∙ ap (λ xs. seq_of (trees a xs)) (sym (take-append-drop k parts)) ∙ ap seq_of (trees_append a (take k parts) (drop k parts)) in
    same_at (ap (λ x. Seq x (tree b end)) front ∙ ap (λ y. Seq first y) behind) whole (same_back (seq_append (trees a (take k parts)) (trees a (drop k parts))))

-- what stands in front of the same last parts
pub ends_joined : (a m n : List Row) → GrowsTypes a m → GrowsTypes m n → (one two ahead end other also : TypeId) (M : Tree) → BelongsTo a two → BelongsTo m ahead → BelongsTo m end → end.at ≡ also.at →
    MeansSame (Seq (tree m ahead) (tree m end)) (tree a one) → MeansSame (Seq (tree n other) (tree n also)) (tree m two) → MeansSame M (Alt (Seq (tree n ahead) (tree n end)) (Seq (tree n other) (tree n end))) →
    MeansSame M (Alt (tree a one) (tree a two))
ends_joined a m n am mn one two ahead end other also M bt ba be q f g h =
    let first = same_then (same_of (ap (λ x. Seq x (tree n end)) (kept_tree m n mn ahead ba) ∙ ap (λ y. Seq (tree m ahead) y) (kept_tree m n mn end be))) f in
    let second = same_then (same_of (ap (λ i. Seq (tree n other) (tree_at n i)) q)) (same_then g (same_of (kept_tree a m am two bt))) in
    same_then h (alt_same first second)

-- the last items, as slices give them
pub last_items : {A : Type 0} (xs ys zs : List A) (n : ℕ) → zs ≡ take (length ys - n) (drop n ys) → ys ≡ xs → zs ≡ drop n xs
last_items xs ys zs n e f = e ∙ drop_whole ys n ∙ ap (drop n) f
