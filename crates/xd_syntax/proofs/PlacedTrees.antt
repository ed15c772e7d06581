-- The same for trees with places, and that they are the trees with places aside.
use Rattle.std.proofs.Common.{◌≡◌, ℕ, zero, suc, ◌+◌, ◌<◌, arith, Bool, List, [], ◌∷◌, ◌++◌, map, length, get_or, refl, ap, sym, ◌∙◌, subst, length-append, append_assoc, flat_map, append-nil}
use Rattle.std.specs.List.{AllByRecursion}
use Rattle.std.proofs.Math.ListN.{get_or-append}
use Rattle.std.proofs.Math.Seq.{get_or-append_seam}
use Rattle.xd_base.specs.declared.Place.{Place}
use Rattle.xd_syntax.specs.Tree.{Tree, Seq, Alt, Elem, Star, Plus, Opt, Val, seq_of}
use Rattle.xd_syntax.specs.TreeForms.{alt_of}
use Rattle.xd_syntax.specs.Placed.{PlacedTree, Empty_at, Elem_at, Star_at, Plus_at, Opt_at, Val_at, placed_seq, placed_alt, unplaced, place_of, variables}
use Rattle.xd_syntax.specs.PlacedTable.{placed_form, placed_in, placed_after, placed_at, the_start}
use Rattle.xd_syntax.specs.Table.{Row, Form, empty_form, text_form, words_form, name_form, elem_form, seq_form, alt_form, star_form, plus_form, opt_form, val_form, form_tree, tree_in, trees_after, tree_at, AreBuiltAfter, AreBuilt, PartsBelow}
use Rattle.xd_syntax.proofs.Trees.{parts_below}

after_append : (ts : List PlacedTree) (rs qs : List Row) → placed_after ts (rs ++ qs) ≡ placed_after (placed_after ts rs) qs
after_append ts [] qs = refl
after_append ts (r ∷ rs) qs = after_append (ts ++ placed_form (placed_in ts) r.place r.form ∷ []) rs qs

after_length : (ts : List PlacedTree) (rs : List Row) → length (placed_after ts rs) ≡ length ts + length rs
after_length ts [] = omega arith
after_length ts (r ∷ rs) =
    let i = after_length (ts ++ placed_form (placed_in ts) r.place r.form ∷ []) rs in omega (arith, length-append ts (placed_form (placed_in ts) r.place r.form ∷ []))

after_front : (ts : List PlacedTree) (rs : List Row) (i : ℕ) → i < length ts → get_or (placed_after ts rs) i (Empty_at the_start) ≡ get_or ts i (Empty_at the_start)
after_front ts [] i h = refl
after_front ts (r ∷ rs) i h =
    after_front (ts ++ placed_form (placed_in ts) r.place r.form ∷ []) rs i (omega (arith, length-append ts (placed_form (placed_in ts) r.place r.form ∷ [])))
    ∙ get_or-append ts (placed_form (placed_in ts) r.place r.form ∷ []) (Empty_at the_start) i h

-- a table that has grown keeps the trees of its old nodes
pub placed_kept : (rs qs : List Row) (i : ℕ) → i < length rs → placed_at (rs ++ qs) i ≡ placed_at rs i
unfolding placed_at
placed_kept rs qs i h =
    let e = after_length [] rs in
    ap (λ ts. get_or ts i (Empty_at the_start)) (after_append [] rs qs) ∙ after_front (placed_after [] rs) qs i (omega arith)

-- the new node has the tree of its form
pub placed_new : (rs : List Row) (r : Row) → placed_at (rs ++ r ∷ []) (length rs) ≡ placed_form (placed_at rs) r.place r.form
unfolding placed_at
placed_new rs r =
    let e = after_length [] rs in
    let l : length (placed_after [] rs) ≡ length rs = omega arith in
    ap (λ ts. get_or ts (length rs) (Empty_at the_start)) (after_append [] rs (r ∷ []))
    ∙ subst (λ n. get_or (placed_after [] rs ++ placed_form (placed_in (placed_after [] rs)) r.place r.form ∷ []) n (Empty_at the_start) ≡ placed_form (placed_in (placed_after [] rs)) r.place r.form) l
    (get_or-append_seam (placed_after [] rs) (placed_form (placed_in (placed_after [] rs)) r.place r.form) [] (Empty_at the_start))

-- forms read only the trees of their parts
same_parts : (t u : ℕ → PlacedTree) (n : ℕ) → ((i : ℕ) → i < n → t i ≡ u i) → (is : List ℕ) → AllByRecursion (λ i. i < n) is → map t is ≡ map u is
same_parts t u n h [] a = refl
same_parts t u n h (i ∷ is) a = let e = h i a.0 in let k = same_parts t u n h is a.1 in cc

pub same_placed : (t u : ℕ → PlacedTree) (n : ℕ) (p : Place) → ((i : ℕ) → i < n → t i ≡ u i) → (f : Form) → PartsBelow n f → placed_form t p f ≡ placed_form u p f
same_placed t u n p h empty_form k = refl
same_placed t u n p h text_form k = refl
same_placed t u n p h (words_form w) k = refl
same_placed t u n p h (name_form w) k = refl
same_placed t u n p h (elem_form c i) k = ap (Elem_at p c) (h i k)
same_placed t u n p h (seq_form is) k = ap (placed_seq p) (same_parts t u n h is k)
same_placed t u n p h (alt_form is) k = ap (placed_alt p) (same_parts t u n h is k)
same_placed t u n p h (star_form i) k = ap (Star_at p) (h i k)
same_placed t u n p h (plus_form i) k = ap (Plus_at p) (h i k)
same_placed t u n p h (opt_form i) k = ap (Opt_at p) (h i k)
same_placed t u n p h (val_form x q i) k = ap (Val_at p x q) (h i k)

placed_node : (b : Bool) (older rs : List Row) (j : ℕ) (d : Row) → AreBuiltAfter b older rs → j < length rs →
    placed_at (older ++ rs) (length older + j) ≡ placed_form (placed_at (older ++ rs)) (get_or rs j d).place (get_or rs j d).form
placed_node b older [] j d a h = absurd (omega arith)
placed_node b older (r ∷ rs) zero d a h =
    let e : length older + 0 ≡ length older = omega arith in
    let l : length older < length (older ++ r ∷ []) = omega (arith, length-append older (r ∷ [])) in
    ap (placed_at (older ++ r ∷ rs)) e
    ∙ ap (λ xs. placed_at xs (length older)) (sym (append_assoc older (r ∷ []) rs))
    ∙ placed_kept (older ++ r ∷ []) rs (length older) l
    ∙ placed_new older r
    ∙ same_placed (placed_at older) (placed_at (older ++ r ∷ rs)) (length older) r.place (λ i k. sym (placed_kept older (r ∷ rs) i k)) r.form (parts_below b older r.form a.0)
placed_node b older (r ∷ rs) (suc j) d a h =
    let e : length (older ++ r ∷ []) + j ≡ length older + suc j = omega (arith, length-append older (r ∷ [])) in
    let i = placed_node b (older ++ r ∷ []) rs j d a.1 (omega arith) in
    subst (λ xs. placed_at xs (length older + suc j) ≡ placed_form (placed_at xs) (get_or rs j d).place (get_or rs j d).form) (append_assoc older (r ∷ []) rs)
    (subst (λ n. placed_at ((older ++ r ∷ []) ++ rs) n ≡ placed_form (placed_at ((older ++ r ∷ []) ++ rs)) (get_or rs j d).place (get_or rs j d).form) e i)

-- the tree of a node is that of its form
pub placed_is : (b : Bool) (rs : List Row) (i : ℕ) (d : Row) → AreBuilt b rs → i < length rs → placed_at rs i ≡ placed_form (placed_at rs) (get_or rs i d).place (get_or rs i d).form
placed_is b rs i d a h = let e : 0 + i ≡ i = omega arith in
    subst (λ n. placed_at rs n ≡ placed_form (placed_at rs) (get_or rs i d).place (get_or rs i d).form) e (placed_node b [] rs i d a h)

-- places aside, the trees are those without places
unplaced_parts : (t : ℕ → PlacedTree) (is : List ℕ) → map (λ i. unplaced (t i)) is ≡ map unplaced (map t is)
unplaced_parts t [] = refl
unplaced_parts t (i ∷ is) = ap (λ xs. unplaced (t i) ∷ xs) (unplaced_parts t is)

unplaced_seq : (p : Place) (ts : List PlacedTree) → unplaced (placed_seq p ts) ≡ seq_of (map unplaced ts)
unplaced_seq p [] = refl
unplaced_seq p (t ∷ []) = refl
unplaced_seq p (t ∷ (u ∷ us)) = ap (Seq (unplaced t)) (unplaced_seq (place_of u) (u ∷ us))

unplaced_alt : (p : Place) (ts : List PlacedTree) → unplaced (placed_alt p ts) ≡ alt_of (map unplaced ts)
unplaced_alt p [] = refl
unplaced_alt p (t ∷ []) = refl
unplaced_alt p (t ∷ (u ∷ us)) = ap (Alt (unplaced t)) (unplaced_alt (place_of u) (u ∷ us))

unplaced_form : (t : ℕ → PlacedTree) (p : Place) (f : Form) → unplaced (placed_form t p f) ≡ form_tree (λ i. unplaced (t i)) f
unplaced_form t p empty_form = refl
unplaced_form t p text_form = refl
unplaced_form t p (words_form w) = refl
unplaced_form t p (name_form w) = refl
unplaced_form t p (elem_form c i) = refl
unplaced_form t p (seq_form is) = unplaced_seq p (map t is) ∙ ap seq_of (sym (unplaced_parts t is))
unplaced_form t p (alt_form is) = unplaced_alt p (map t is) ∙ ap alt_of (sym (unplaced_parts t is))
unplaced_form t p (star_form i) = refl
unplaced_form t p (plus_form i) = refl
unplaced_form t p (opt_form i) = refl
unplaced_form t p (val_form x q i) = refl

unplaced_in : (ts : List PlacedTree) (i : ℕ) → unplaced (placed_in ts i) ≡ tree_in (map unplaced ts) i
unplaced_in [] i = refl
unplaced_in (t ∷ ts) zero = refl
unplaced_in (t ∷ ts) (suc i) = unplaced_in ts i

map_last : (ts : List PlacedTree) (t : PlacedTree) → map unplaced (ts ++ t ∷ []) ≡ map unplaced ts ++ unplaced t ∷ []
map_last [] t = refl
map_last (u ∷ ts) t = ap (λ xs. unplaced u ∷ xs) (map_last ts t)

same_at_all : (t u : ℕ → Tree) → ((i : ℕ) → t i ≡ u i) → (is : List ℕ) → map t is ≡ map u is
same_at_all t u h [] = refl
same_at_all t u h (i ∷ is) = let e = h i in let k = same_at_all t u h is in cc

form_at_all : (t u : ℕ → Tree) → ((i : ℕ) → t i ≡ u i) → (f : Form) → form_tree t f ≡ form_tree u f
form_at_all t u h empty_form = refl
form_at_all t u h text_form = refl
form_at_all t u h (words_form w) = refl
form_at_all t u h (name_form w) = refl
form_at_all t u h (elem_form c i) = ap (Elem c) (h i)
form_at_all t u h (seq_form is) = ap seq_of (same_at_all t u h is)
form_at_all t u h (alt_form is) = ap alt_of (same_at_all t u h is)
form_at_all t u h (star_form i) = ap Star (h i)
form_at_all t u h (plus_form i) = ap Plus (h i)
form_at_all t u h (opt_form i) = ap Opt (h i)
form_at_all t u h (val_form x q i) = ap (Val x) (h i)

unplaced_after : (ts : List PlacedTree) (rs : List Row) → map unplaced (placed_after ts rs) ≡ trees_after (map unplaced ts) rs
unplaced_after ts [] = refl
unplaced_after ts (r ∷ rs) =
    unplaced_after (ts ++ placed_form (placed_in ts) r.place r.form ∷ []) rs
    ∙ ap (λ us. trees_after us rs)
    (map_last ts (placed_form (placed_in ts) r.place r.form)
    ∙ ap (λ t. map unplaced ts ++ t ∷ [])
    (unplaced_form (placed_in ts) r.place r.form
    ∙ form_at_all (λ i. unplaced (placed_in ts i)) (tree_in (map unplaced ts)) (unplaced_in ts) r.form))

-- a node's tree is its tree with places, places aside
pub unplaced_at : (rs : List Row) (i : ℕ) → unplaced (placed_at rs i) ≡ tree_at rs i
unfolding placed_at tree_at
unplaced_at rs i = unplaced_in (placed_after [] rs) i ∙ ap (λ ts. tree_in ts i) (unplaced_after [] rs)

pub variables_in_seq : (p : Place) (ts : List PlacedTree) → variables (placed_seq p ts) ≡ flat_map variables ts
variables_in_seq p [] = refl
variables_in_seq p (t ∷ []) = sym (append-nil (variables t))
variables_in_seq p (t ∷ (u ∷ us)) = ap (λ xs. variables t ++ xs) (variables_in_seq (place_of u) (u ∷ us))

pub variables_in_alt : (p : Place) (ts : List PlacedTree) → variables (placed_alt p ts) ≡ flat_map variables ts
variables_in_alt p [] = refl
variables_in_alt p (t ∷ []) = sym (append-nil (variables t))
variables_in_alt p (t ∷ (u ∷ us)) = ap (λ xs. variables t ++ xs) (variables_in_alt (place_of u) (u ∷ us))
