-- The trees of a table that grows.
use Rattle.std.proofs.Common.{◌≡◌, ℕ, zero, suc, ◌+◌, ◌<◌, arith, Bool, List, [], ◌∷◌, ◌++◌, map, length, take, get_or, refl, ap, sym, ◌∙◌, subst, length-append, append_assoc, append-nil}
use Rattle.std.specs.List.{AllByRecursion}
use Rattle.std.proofs.Math.ListN.{get_or-append}
use Rattle.std.proofs.Math.Seq.{get_or-append_seam}
use Rattle.xd_syntax.specs.Tree.{Tree, Empty, Elem, Star, Plus, Opt, Val, seq_of}
use Rattle.xd_syntax.specs.TreeForms.{alt_of}
use Rattle.xd_syntax.specs.Table.{Row, Form, empty_form, text_form, words_form, name_form, elem_form, seq_form, alt_form, star_form, plus_form, opt_form, val_form, form_tree, tree_in, trees_after, tree_at, IsSeqPart, IsAltPart, CanFollow, AreBuiltAfter, AreBuilt, PartsBelow}

after_append : (ts : List Tree) (rs qs : List Row) → trees_after ts (rs ++ qs) ≡ trees_after (trees_after ts rs) qs
after_append ts [] qs = refl
after_append ts (r ∷ rs) qs = after_append (ts ++ form_tree (tree_in ts) r.form ∷ []) rs qs

after_length : (ts : List Tree) (rs : List Row) → length (trees_after ts rs) ≡ length ts + length rs
after_length ts [] = omega arith
after_length ts (r ∷ rs) =
    let i = after_length (ts ++ form_tree (tree_in ts) r.form ∷ []) rs in omega (arith, length-append ts (form_tree (tree_in ts) r.form ∷ []))

after_front : (ts : List Tree) (rs : List Row) (i : ℕ) → i < length ts → get_or (trees_after ts rs) i Empty ≡ get_or ts i Empty
after_front ts [] i h = refl
after_front ts (r ∷ rs) i h =
    after_front (ts ++ form_tree (tree_in ts) r.form ∷ []) rs i (omega (arith, length-append ts (form_tree (tree_in ts) r.form ∷ [])))
    ∙ get_or-append ts (form_tree (tree_in ts) r.form ∷ []) Empty i h

-- a table that has grown keeps the trees of its old nodes
pub tree_kept : (rs qs : List Row) (i : ℕ) → i < length rs → tree_at (rs ++ qs) i ≡ tree_at rs i
unfolding tree_at
tree_kept rs qs i h =
    let e = after_length [] rs in
    ap (λ ts. get_or ts i Empty) (after_append [] rs qs) ∙ after_front (trees_after [] rs) qs i (omega arith)

-- the new node has the tree of its form
pub tree_new : (rs : List Row) (r : Row) → tree_at (rs ++ r ∷ []) (length rs) ≡ form_tree (tree_at rs) r.form
unfolding tree_at
tree_new rs r =
    let e = after_length [] rs in
    let l : length (trees_after [] rs) ≡ length rs = omega arith in
    ap (λ ts. get_or ts (length rs) Empty) (after_append [] rs (r ∷ []))
    ∙ subst (λ n. get_or (trees_after [] rs ++ form_tree (tree_in (trees_after [] rs)) r.form ∷ []) n Empty ≡ form_tree (tree_in (trees_after [] rs)) r.form) l
    (get_or-append_seam (trees_after [] rs) (form_tree (tree_in (trees_after [] rs)) r.form) [] Empty)

-- forms read only the trees of their parts
same_parts : (t u : ℕ → Tree) (n : ℕ) → ((i : ℕ) → i < n → t i ≡ u i) → (is : List ℕ) → AllByRecursion (λ i. i < n) is → map t is ≡ map u is
same_parts t u n h [] a = refl
same_parts t u n h (i ∷ is) a = let e = h i a.0 in let k = same_parts t u n h is a.1 in cc

pub same_form : (t u : ℕ → Tree) (n : ℕ) → ((i : ℕ) → i < n → t i ≡ u i) → (f : Form) → PartsBelow n f → form_tree t f ≡ form_tree u f
same_form t u n h empty_form p = refl
same_form t u n h text_form p = refl
same_form t u n h (words_form w) p = refl
same_form t u n h (name_form w) p = refl
same_form t u n h (elem_form c i) p = ap (Elem c) (h i p)
same_form t u n h (seq_form is) p = ap seq_of (same_parts t u n h is p)
same_form t u n h (alt_form is) p = ap alt_of (same_parts t u n h is p)
same_form t u n h (star_form i) p = ap Star (h i p)
same_form t u n h (plus_form i) p = ap Plus (h i p)
same_form t u n h (opt_form i) p = ap Opt (h i p)
same_form t u n h (val_form x q i) p = ap (Val x) (h i p)

seq_parts_below : (rs : List Row) (is : List ℕ) → AllByRecursion (IsSeqPart rs) is → AllByRecursion (λ i. i < length rs) is
seq_parts_below rs [] a = tt
seq_parts_below rs (i ∷ is) a = (a.0.0, seq_parts_below rs is a.1)

alt_parts_below : (rs : List Row) (is : List ℕ) → AllByRecursion (IsAltPart rs) is → AllByRecursion (λ i. i < length rs) is
alt_parts_below rs [] a = tt
alt_parts_below rs (i ∷ is) a = (a.0.0, alt_parts_below rs is a.1)

-- what may follow has parts that are older
pub parts_below : (b : Bool) (rs : List Row) (f : Form) → CanFollow b rs f → PartsBelow (length rs) f
parts_below b rs empty_form p = tt
parts_below b rs text_form p = tt
parts_below b rs (words_form w) p = tt
parts_below b rs (name_form w) p = tt
parts_below b rs (elem_form c i) p = p
parts_below b rs (seq_form is) p = seq_parts_below rs is p.1
parts_below b rs (alt_form is) p = alt_parts_below rs is p.1
parts_below b rs (star_form i) p = p
parts_below b rs (plus_form i) p = p
parts_below b rs (opt_form i) p = p
parts_below b rs (val_form x q i) p = p.1

-- one more node
built_push : (b : Bool) (older rs : List Row) (r : Row) → AreBuiltAfter b older rs → CanFollow b (older ++ rs) r.form → AreBuiltAfter b older (rs ++ r ∷ [])
built_push b older [] r a f = (subst (λ xs. CanFollow b xs r.form) (append-nil older) f, tt)
built_push b older (q ∷ rs) r a f =
    (a.0, built_push b (older ++ q ∷ []) rs r a.1 (subst (λ xs. CanFollow b xs r.form) (sym (append_assoc older (q ∷ []) rs)) f))

pub AreBuilt-push : (b : Bool) (rs : List Row) (r : Row) → AreBuilt b rs → CanFollow b rs r.form → AreBuilt b (rs ++ r ∷ [])
AreBuilt-push b rs r a f = built_push b [] rs r a f

-- a node may follow those before it
built_at : (b : Bool) (older rs : List Row) (j : ℕ) (d : Row) → AreBuiltAfter b older rs → j < length rs → CanFollow b (older ++ take j rs) (get_or rs j d).form
built_at b older [] j d a h = absurd (omega arith)
built_at b older (r ∷ rs) zero d a h = subst (λ xs. CanFollow b xs r.form) (sym (append-nil older)) a.0
built_at b older (r ∷ rs) (suc j) d a h =
    subst (λ xs. CanFollow b xs (get_or rs j d).form) (append_assoc older (r ∷ []) (take j rs)) (built_at b (older ++ r ∷ []) rs j d a.1 (omega arith))

pub follows_at : (b : Bool) (rs : List Row) (j : ℕ) (d : Row) → AreBuilt b rs → j < length rs → CanFollow b (take j rs) (get_or rs j d).form
follows_at b rs j d a h = built_at b [] rs j d a h

tree_after : (b : Bool) (older rs : List Row) (j : ℕ) (d : Row) → AreBuiltAfter b older rs → j < length rs →
    tree_at (older ++ rs) (length older + j) ≡ form_tree (tree_at (older ++ rs)) (get_or rs j d).form
tree_after b older [] j d a h = absurd (omega arith)
tree_after b older (r ∷ rs) zero d a h =
    let e : length older + 0 ≡ length older = omega arith in
    let l : length older < length (older ++ r ∷ []) = omega (arith, length-append older (r ∷ [])) in
    ap (tree_at (older ++ r ∷ rs)) e
    ∙ ap (λ xs. tree_at xs (length older)) (sym (append_assoc older (r ∷ []) rs))
    ∙ tree_kept (older ++ r ∷ []) rs (length older) l
    ∙ tree_new older r
    ∙ same_form (tree_at older) (tree_at (older ++ r ∷ rs)) (length older) (λ i k. sym (tree_kept older (r ∷ rs) i k)) r.form (parts_below b older r.form a.0)
tree_after b older (r ∷ rs) (suc j) d a h =
    let e : length (older ++ r ∷ []) + j ≡ length older + suc j = omega (arith, length-append older (r ∷ [])) in
    let i = tree_after b (older ++ r ∷ []) rs j d a.1 (omega arith) in
    subst (λ xs. tree_at xs (length older + suc j) ≡ form_tree (tree_at xs) (get_or rs j d).form) (append_assoc older (r ∷ []) rs)
    (subst (λ n. tree_at ((older ++ r ∷ []) ++ rs) n ≡ form_tree (tree_at ((older ++ r ∷ []) ++ rs)) (get_or rs j d).form) e i)

-- the tree of a node is that of its form
pub tree_is : (b : Bool) (rs : List Row) (i : ℕ) (d : Row) → AreBuilt b rs → i < length rs → tree_at rs i ≡ form_tree (tree_at rs) (get_or rs i d).form
tree_is b rs i d a h = let e : 0 + i ≡ i = omega arith in
    subst (λ n. tree_at rs n ≡ form_tree (tree_at rs) (get_or rs i d).form) e (tree_after b [] rs i d a h)

-- a node's parts stand below it
pub parts_at : (b : Bool) (rs : List Row) (j : ℕ) (d : Row) → AreBuilt b rs → j < length rs → PartsBelow j (get_or rs j d).form
parts_at b rs j d a h =
    subst (λ n. PartsBelow n (get_or rs j d).form) (length-take j rs h) (parts_below b (take j rs) (get_or rs j d).form (follows_at b rs j d a h))
  where
    length-take : (j : ℕ) (rs : List Row) → j < length rs → length (take j rs) ≡ j
    length-take zero rs h = refl
    length-take (suc j) [] h = absurd (omega arith)
    length-take (suc j) (r ∷ rs) h = let i = length-take j rs (omega arith) in omega arith
