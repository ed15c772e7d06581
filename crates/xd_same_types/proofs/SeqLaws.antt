-- Laws of sequences as they grow.
use Rattle.std.proofs.Common.{◌≡◌, ℕ, ◌+◌, ◌<◌, get_or, sym, ap, ◌∙◌, List, [], ◌∷◌, ◌++◌, take, drop, length, append_assoc}
use Rattle.std.proofs.lemmas.List.{take-append-drop}
use Rattle.std.specs.Prelude.{◌||◌}
use Rattle.xd_doc.proofs.Lists.{all_take, all_there}
use Rattle.xd_syntax.specs.Tree.{Tree, Empty, Seq, Star, Plus, seq_of, is_empty}
use Rattle.xd_syntax.specs.TreeForms.{is_seq}
use Rattle.xd_syntax.specs.Table.{Row, IsSeqPart}
use Rattle.xd_same_types.specs.Grown.{GrowsTypes}
use Rattle.xd_syntax.specs.Types.{BelongsTo, tree}
use Rattle.xd_syntax.specs.declared.types.TypeId.{TypeId}
use Rattle.xd_same_types.specs.Same.{EndsRepeated, MeansSame, AreSeqParts, trees}
use Rattle.xd_same_types.proofs.Laws.{same_refl, same_of, same_back, same_then, seq_same, seq_assoc, seq_append, seq_push, seq_cons, one_star, star_one, seq_empty, same_at}
use Rattle.xd_same_types.proofs.Tables.{kept_trees, kept_tree, seq_belong, trees_append}
use Rattle.xd_same_types.proofs.Ids.{take_read}

gathered_trees : (A I W : List Tree) (B more plus : Tree) → seq_of I ≡ B → more ≡ Star B → plus ≡ Plus B → W ≡ A ++ I → MeansSame (Seq (seq_of A) plus) (Seq (seq_of W) more)
gathered_trees A I W B more plus b n p w =
    same_then (seq_same (same_refl (seq_of A)) (same_then (same_of p) (same_back (one_star B))))
    (same_then (same_back (seq_assoc (seq_of A) B (Star B)))
    (seq_same (same_then (seq_same (same_refl (seq_of A)) (same_of (sym b))) (same_then (same_back (seq_append A I)) (same_of (ap seq_of (sym w)))))
    (same_of (sym n))))

-- what a star repeats, taken from the end, and the plus of it
pub gathered : (a b : List Row) → GrowsTypes a b → (k : ℕ) (parts inner : List TypeId) (body next plus : TypeId) → AreSeqParts a parts → parts ≡ take k parts ++ inner →
    seq_of (trees a inner) ≡ tree a body → tree a next ≡ Star (tree a body) → tree b plus ≡ Plus (tree a body) →
    MeansSame (Seq (seq_of (trees b (take k parts))) (tree b plus)) (Seq (seq_of (trees a parts)) (tree a next))
gathered a b keeps k parts inner body next plus h e i n p =
    let kept = kept_trees a b keeps (take k parts) (all_take (BelongsTo a) k parts (seq_belong a parts h)) in
    same_then (seq_same (same_of (ap seq_of kept)) (same_refl (tree b plus)))
    (gathered_trees (trees a (take k parts)) (trees a inner) (trees a parts) (tree a body) (tree a next) (tree b plus) i n p
    (ap (trees a) e ∙ trees_append a (take k parts) inner))

fused_trees : (A W : List Tree) (last more one : Tree) → W ≡ A ++ last ∷ [] → MeansSame one (Seq last more) → MeansSame (seq_of (A ++ one ∷ [])) (Seq (seq_of W) more)
fused_trees A W last more one w s =
    same_then (seq_push A one) (same_then (seq_same (same_refl (seq_of A)) s)
    (same_then (same_back (seq_assoc (seq_of A) last more))
    (seq_same (same_then (same_back (seq_push A last)) (same_of (ap seq_of (sym w)))) (same_refl more))))

-- one type in the place of the last part and the next one
pub fused_last : (a b : List Row) → GrowsTypes a b → (k : ℕ) (parts : List TypeId) (last next one : TypeId) → AreSeqParts a parts → parts ≡ take k parts ++ last ∷ [] →
    MeansSame (tree b one) (Seq (tree a last) (tree a next)) → MeansSame (seq_of (trees b (take k parts ++ one ∷ []))) (Seq (seq_of (trees a parts)) (tree a next))
fused_last a b keeps k parts last next one h e s =
    let kept = kept_trees a b keeps (take k parts) (all_take (BelongsTo a) k parts (seq_belong a parts h)) in
    same_then (same_of (ap seq_of (trees_append b (take k parts) (one ∷ []) ∙ ap (λ ts. ts ++ tree b one ∷ []) kept)))
    (fused_trees (trees a (take k parts)) (trees a parts) (tree a last) (tree a next) (tree b one) (ap (trees a) e ∙ trees_append a (take k parts) (last ∷ [])) s)

-- one more part
pub pushed_part : (a b : List Row) → GrowsTypes a b → (parts : List TypeId) (next : TypeId) → AreSeqParts a parts → BelongsTo a next → tree b next ≡ tree a next →
    MeansSame (seq_of (trees b (parts ++ next ∷ []))) (Seq (seq_of (trees a parts)) (tree a next))
pushed_part a b keeps parts next h l e =
    let kept = kept_trees a b keeps parts (seq_belong a parts h) in
    same_then (same_of (ap seq_of (trees_append b parts (next ∷ []) ∙ ap (λ ts. ts ++ tree b next ∷ []) kept ∙ ap (λ t. trees a parts ++ t ∷ []) e)))
    (seq_push (trees a parts) (tree a next))

-- the parts of a second type, one after the other
pub seq_first : (rs : List Row) (parts : List TypeId) (one : TypeId) → seq_of (trees rs parts) ≡ tree rs one → MeansSame (seq_of (trees rs parts)) (Seq (tree rs one) Empty)
seq_first rs parts one e = same_then (same_of e) (same_back (seq_empty (tree rs one)))

pub seq_more : (rs now : List Row) → GrowsTypes rs now → (one P Q : Tree) (items : List TypeId) (i : ℕ) (part : TypeId) → AreSeqParts rs items → i < length items → part ≡ get_or items i part →
    MeansSame P (Seq one (seq_of (trees rs (take i items)))) → MeansSame Q (Seq P (tree now part)) → MeansSame Q (Seq one (seq_of (trees rs (take (i + 1) items))))
seq_more rs now keeps one P Q items i part h l e s t =
    let b : BelongsTo rs part = all_there (BelongsTo rs) items i part (seq_belong rs items h) l e in
    let k : tree now part ≡ tree rs part = kept_tree rs now keeps part b in
    same_then t (same_then (seq_same s (same_of k)) (same_then (seq_assoc one (seq_of (trees rs (take i items))) (tree rs part))
    (seq_same (same_refl one) (same_then (same_back (seq_push (trees rs (take i items)) (tree rs part)))
    (same_of (ap seq_of (sym (trees_append rs (take i items) (part ∷ [])) ∙ ap (trees rs) (sym (take_read items i part l e)))))))))

-- a star and what it repeats, as its plus
repeated_trees : (A R : List Tree) (S B : Tree) → S ≡ Star B → seq_of R ≡ B → MeansSame (seq_of (A ++ Plus B ∷ [])) (seq_of (A ++ S ∷ R))
repeated_trees A R S B e f =
    same_then (seq_push A (Plus B)) (same_then (seq_same (same_refl (seq_of A)) (same_then (same_back (star_one B))
    (same_then (seq_same (same_of (sym e)) (same_of (sym f))) (same_back (seq_cons S R))))) (same_back (seq_append A (S ∷ R))))

around : {A : Type 0} (xs : List A) (k : ℕ) (x : A) → k < length xs → x ≡ get_or xs k x → xs ≡ take k xs ++ x ∷ drop (k + 1) xs
around xs k x l e =
    sym (take-append-drop (k + 1) xs) ∙ ap (λ ys. ys ++ drop (k + 1) xs) (take_read xs k x l e) ∙ append_assoc (take k xs) (x ∷ []) (drop (k + 1) xs)

pub repeated_last : (a b : List Row) → GrowsTypes a b → (parts : List TypeId) (k : ℕ) (star body plus : TypeId) → AreSeqParts a parts → EndsRepeated a parts k → star ≡ get_or parts k star →
    tree a star ≡ Star (tree a body) → tree b plus ≡ Plus (tree a body) → MeansSame (seq_of (trees b (take k parts ++ plus ∷ []))) (seq_of (trees a parts))
repeated_last a b keeps parts k star body plus h r e q p =
    let kept = kept_trees a b keeps (take k parts) (all_take (BelongsTo a) k parts (seq_belong a parts h)) in
    let old = ap (trees a) (around parts k star r.within e) ∙ trees_append a (take k parts) (star ∷ drop (k + 1) parts) in
    let new = trees_append b (take k parts) (plus ∷ []) ∙ ap (λ ts. ts ++ tree b plus ∷ []) kept ∙ ap (λ t. trees a (take k parts) ++ t ∷ []) p in
    let is = r.star star e in
    let same : r.inside ≡ tree a body = star_inside r.inside (tree a body) (sym is ∙ q) in
    same_at (ap seq_of new) (ap seq_of old) (repeated_trees (trees a (take k parts)) (trees a (drop (k + 1) parts)) (tree a star) (tree a body) q (r.rest ∙ same))
  where
    star_inside : (T U : Tree) → Star T ≡ Star U → T ≡ U
    star_inside T U z = cc

-- a plus may be a part of a sequence
pub plus_part : (rs : List Row) (id : TypeId) (T : Tree) → BelongsTo rs id → tree rs id ≡ Plus T → IsSeqPart rs id.at
plus_part rs id T b e = (b, ap (λ (x : Tree). is_seq x || is_empty x) e)
