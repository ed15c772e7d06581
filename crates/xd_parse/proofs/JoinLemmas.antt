-- The parts of an expression in its table.
use Rattle.std.proofs.Common.{◌≡◌, ℕ, zero, suc, ◌+◌, ◌<◌, ◌≤◌, arith, Bool, true, false, List, [], ◌∷◌, ◌++◌, length, map, get_or, refl, sym, ap, subst, ◌∙◌, length-append, append_assoc, append-nil}
use Rattle.std.specs.Prelude.{◌==◌}
use Rattle.std.specs.List.{AllByRecursion, flat_map}
use Rattle.std.proofs.Math.ListN.{get_or-append}
use Rattle.xd_base.specs.declared.Place.{Place}
use Rattle.xd_syntax.specs.Placed.{PlacedTree}
use Rattle.xd_syntax.specs.PlacedTable.{placed_at, the_start}
use Rattle.xd_syntax.specs.Table.{Row}
use Rattle.xd_syntax.specs.Expression.{Expression, Nothing, Joined, place_of_expression, joined}
use Rattle.xd_syntax.specs.ExpressionTable.{ExprRow, KeepsExprs, ExprShape, empty_shape, text_shape, var_shape, elem_shape, seq_shape, call_shape, match_shape, shape_expression, expression_at, is_joined_shape, shape_at, IsJoinedPart, ExprCanFollow}
use Rattle.xd_syntax.specs.Exprs.{expression, expr_numbers}
use Rattle.xd_syntax.specs.declared.exprs.ExprId.{ExprId}
use Rattle.xd_syntax.proofs.ExprTrees.{expression_kept, expression_new}
use Rattle.xd_parse_trees.specs.Merged.{parts_of_expression, merged_expression, sequence_of_expressions}

-- ---- a node's expression, by its row
pub record IsShaped (patterns : List Row) (e : Expression) (r : ExprRow) : Type 0 where
  pub parts : ℕ → Expression
  pub is : e ≡ shape_expression (placed_at patterns) parts r.place r.form

shaped_seam : (patterns : List Row) (older : List ExprRow) (r : ExprRow) (rs : List ExprRow) → IsShaped patterns (expression_at patterns ((older ++ r ∷ []) ++ rs) (length older)) r
shaped_seam patterns older r rs =
    let h : length older < length (older ++ r ∷ []) = omega (arith, length-append older (r ∷ [])) in
    record {
      parts = expression_at patterns older;
      is = expression_kept patterns (older ++ r ∷ []) rs (length older) h ∙ expression_new patterns older r;
    }

pub shaped_at : (patterns : List Row) (older rs : List ExprRow) (i : ℕ) (d : ExprRow) → i < length rs → IsShaped patterns (expression_at patterns (older ++ rs) (length older + i)) (get_or rs i d)
shaped_at patterns older [] i d h = absurd (omega arith)
shaped_at patterns older (r ∷ rs) zero d h =
    let e : length older ≡ length older + 0 = omega arith in
    subst (λ (xs : List ExprRow). IsShaped patterns (expression_at patterns xs (length older + 0)) r) (append_assoc older (r ∷ []) rs)
    (subst (λ (n : ℕ). IsShaped patterns (expression_at patterns ((older ++ r ∷ []) ++ rs) n) r) e (shaped_seam patterns older r rs))
shaped_at patterns older (r ∷ rs) (suc i) d h =
    let e : length (older ++ r ∷ []) + i ≡ length older + suc i = omega (arith, length-append older (r ∷ [])) in
    subst (λ (xs : List ExprRow). IsShaped patterns (expression_at patterns xs (length older + suc i)) (get_or rs i d)) (append_assoc older (r ∷ []) rs)
    (subst (λ (n : ℕ). IsShaped patterns (expression_at patterns ((older ++ r ∷ []) ++ rs) n) (get_or rs i d)) e (shaped_at patterns (older ++ r ∷ []) rs i d (omega arith)))

pub shaped : (patterns : List Row) (rs : List ExprRow) (i : ℕ) (d : ExprRow) → i < length rs → IsShaped patterns (expression_at patterns rs i) (get_or rs i d)
shaped patterns rs i d h =
    let e : 0 + i ≡ i = omega arith in
    subst (λ (n : ℕ). IsShaped patterns (expression_at patterns rs n) (get_or rs i d)) e (shaped_at patterns [] rs i d h)

-- ---- what is no sequence and not empty is one part
alone_shape : (P : ℕ → PlacedTree) (t : ℕ → Expression) (p : Place) (f : ExprShape) → is_joined_shape f ≡ false → parts_of_expression (shape_expression P t p f) ≡ shape_expression P t p f ∷ []
alone_shape P t p empty_shape h = cc
alone_shape P t p (text_shape s) h = refl
alone_shape P t p (var_shape x) h = refl
alone_shape P t p (elem_shape l i) h = refl
alone_shape P t p (seq_shape is) h = cc
alone_shape P t p (call_shape f is) h = refl
alone_shape P t p (match_shape i cs) h = refl

pub alone_part : (patterns : List Row) (rs : List ExprRow) (i : ℕ) → IsJoinedPart rs i → parts_of_expression (expression_at patterns rs i) ≡ expression_at patterns rs i ∷ []
alone_part patterns rs i h =
    let d : ExprRow = record { place = the_start; form = empty_shape } in
    let s : IsShaped patterns (expression_at patterns rs i) (get_or rs i d) = shaped patterns rs i d h.0 in
    subst (λ (e : Expression). parts_of_expression e ≡ e ∷ []) (sym s.is) (alone_shape (placed_at patterns) s.parts (get_or rs i d).place (get_or rs i d).form h.1)

pub all_alone : (patterns : List Row) (rs : List ExprRow) (is : List ℕ) → AllByRecursion (IsJoinedPart rs) is → AllByRecursion (λ (e : Expression). parts_of_expression e ≡ e ∷ []) (map (expression_at patterns rs) is)
all_alone patterns rs [] a = tt
all_alone patterns rs (i ∷ is) a = (alone_part patterns rs i a.0, all_alone patterns rs is a.1)

joined_parts : (p : Place) (es : List Expression) → AllByRecursion (λ (e : Expression). parts_of_expression e ≡ e ∷ []) es → parts_of_expression (joined p es) ≡ es
joined_parts p [] a = refl
joined_parts p (e ∷ []) a = a.0
joined_parts p (e ∷ (f ∷ fs)) a = ap (λ xs. e ∷ xs) (joined_parts (place_of_expression f) (f ∷ fs) a.1)

-- ---- older parts
joined_append : (rs qs : List ExprRow) (i : ℕ) → IsJoinedPart rs i → IsJoinedPart (rs ++ qs) i
joined_append rs qs i h =
    let d : ExprRow = record { place = the_start; form = empty_shape } in
    (omega (arith, length-append rs qs, h.0), ap (λ (r : ExprRow). is_joined_shape r.form) (get_or-append rs qs d i h.0) ∙ h.1)

pub all_joined_append : (rs : List ExprRow) (is js : List ℕ) → AllByRecursion (IsJoinedPart rs) is → AllByRecursion (IsJoinedPart rs) js → AllByRecursion (IsJoinedPart rs) (is ++ js)
all_joined_append rs [] js a b = b
all_joined_append rs (i ∷ is) js a b = (a.0, all_joined_append rs is js a.1 b)

pub joined_stays : (rs qs : List ExprRow) (is : List ℕ) → KeepsExprs rs qs → AllByRecursion (IsJoinedPart rs) is → AllByRecursion (IsJoinedPart qs) is
joined_stays rs qs [] k a = tt
joined_stays rs qs (i ∷ is) k a = (subst (λ (xs : List ExprRow). IsJoinedPart xs i) (sym k.grown) (joined_append rs k.more i a.0), joined_stays rs qs is k a.1)

-- ---- one after the other or all at once
parts_of_merged : (p : Place) (es : List Expression) → AllByRecursion (λ (e : Expression). parts_of_expression e ≡ e ∷ []) es → parts_of_expression (merged_expression p es) ≡ es
parts_of_merged p [] a = refl
parts_of_merged p (e ∷ es) a = joined_parts (place_of_expression e) (e ∷ es) a

merged_on : (p q : Place) (es fs : List Expression) → (es ≡ [] → q ≡ p) → merged_expression q (es ++ fs) ≡ merged_expression p (es ++ fs)
merged_on p q [] fs h = ap (λ x. merged_expression x fs) (h refl)
merged_on p q (e ∷ es) fs h = refl

place_of_none : (p : Place) (es : List Expression) → es ≡ [] → place_of_expression (merged_expression p es) ≡ p
place_of_none p es e = ap (λ xs. place_of_expression (merged_expression p xs)) e

all_alone_append : (es fs : List Expression) → AllByRecursion (λ (e : Expression). parts_of_expression e ≡ e ∷ []) es → AllByRecursion (λ (e : Expression). parts_of_expression e ≡ e ∷ []) fs →
    AllByRecursion (λ (e : Expression). parts_of_expression e ≡ e ∷ []) (es ++ fs)
all_alone_append [] fs a b = b
all_alone_append (e ∷ es) fs a b = (a.0, all_alone_append es fs a.1 b)

-- the sequence of two that are merged, and of those after them
pub sequence_merged : (p q : Place) (es fs : List Expression) → AllByRecursion (λ (e : Expression). parts_of_expression e ≡ e ∷ []) es → AllByRecursion (λ (e : Expression). parts_of_expression e ≡ e ∷ []) fs →
    (later : List Expression) → sequence_of_expressions (merged_expression p (es ++ fs)) later ≡ sequence_of_expressions (merged_expression p es) (merged_expression q fs ∷ later)
sequence_merged p q es fs a b [] =
    sym (ap (merged_expression (place_of_expression (merged_expression p es))) (ap (λ xs. xs ++ (parts_of_expression (merged_expression q fs) ++ [])) (parts_of_merged p es a)
    ∙ ap (λ xs. es ++ (xs ++ [])) (parts_of_merged q fs b) ∙ ap (λ xs. es ++ xs) (append-nil fs))
    ∙ merged_on p (place_of_expression (merged_expression p es)) es fs (place_of_none p es))
sequence_merged p q es fs a b (x ∷ xs) =
    let F = flat_map parts_of_expression (x ∷ xs) in
    let here = merged_expression p es in
    let there = merged_expression q fs in
    let left : sequence_of_expressions (merged_expression p (es ++ fs)) (x ∷ xs) ≡ merged_expression p ((es ++ fs) ++ F)
    = ap (λ ys. merged_expression (place_of_expression (merged_expression p (es ++ fs))) (ys ++ F)) (parts_of_merged p (es ++ fs) (all_alone_append es fs a b))
    ∙ merged_on p (place_of_expression (merged_expression p (es ++ fs))) (es ++ fs) F (place_of_none p (es ++ fs)) in
    let right : sequence_of_expressions here (there ∷ (x ∷ xs)) ≡ merged_expression p (es ++ (fs ++ F))
    = ap (λ ys. merged_expression (place_of_expression here) (ys ++ (parts_of_expression there ++ F))) (parts_of_merged p es a)
    ∙ ap (λ ys. merged_expression (place_of_expression here) (es ++ (ys ++ F))) (parts_of_merged q fs b)
    ∙ merged_on p (place_of_expression here) es (fs ++ F) (place_of_none p es) in
    left ∙ ap (merged_expression p) (append_assoc es fs F) ∙ sym right

-- ---- lists of ids
pub numbers_map : (t : ℕ → Expression) (ids : List ExprId) → map t (expr_numbers ids) ≡ map (λ (id : ExprId). t id.at) ids
numbers_map t [] = refl
numbers_map t (id ∷ ids) = ap (λ xs. t id.at ∷ xs) (numbers_map t ids)

pub numbers_append : (ids more : List ExprId) → expr_numbers (ids ++ more) ≡ expr_numbers ids ++ expr_numbers more
numbers_append [] more = refl
numbers_append (id ∷ ids) more = ap (λ xs. id.at ∷ xs) (numbers_append ids more)

pub numbers_push : (all ids : List ExprId) (id : ExprId) → all ≡ ids ++ id ∷ [] → expr_numbers all ≡ expr_numbers ids ++ id.at ∷ []
numbers_push all ids id e = ap expr_numbers e ∙ numbers_append ids (id ∷ [])

-- ---- the place of a node is its expression's
two_joined : (t : ℕ → Expression) (p : Place) (is : List ℕ) → 2 ≤ length is → place_of_expression (joined p (map t is)) ≡ p
two_joined t p [] h = absurd (omega arith)
two_joined t p (i ∷ []) h = absurd (omega arith)
two_joined t p (i ∷ (j ∷ is)) h = refl

-- the node of two parts or more
two_merged : (p q : Place) (e f : Expression) (fs : List Expression) → q ≡ place_of_expression e → joined q (e ∷ (f ∷ fs)) ≡ merged_expression p (e ∷ (f ∷ fs))
two_merged p q e f fs h = ap (λ (x : Place). joined x (e ∷ (f ∷ fs))) h

pub merged_is : (patterns : List Row) (rs : List ExprRow) (p q : Place) (ids : List ExprId) (d : ExprId) → 2 ≤ length ids → q ≡ place_of_expression (expression patterns rs (get_or ids 0 d)) → joined q (map (expression_at patterns rs) (expr_numbers ids)) ≡ merged_expression p (map (expression patterns rs) ids)
merged_is patterns rs p q [] d h e = absurd (omega arith)
merged_is patterns rs p q (i ∷ []) d h e = absurd (omega arith)
merged_is patterns rs p q (i ∷ (j ∷ ids)) d h e =
    ap (joined q) (numbers_map (expression_at patterns rs) (i ∷ (j ∷ ids)))
    ∙ two_merged p q (expression patterns rs i) (expression patterns rs j) (map (expression patterns rs) ids) e

pub positive : (k : ℕ) → (k == 0) ≡ false → 0 < k
positive zero h = cc
positive (suc k) h = omega arith

-- ---- a new node that is one part
abbrev is_joined_expression : Expression → Bool
is_joined_expression (Nothing p) = true
is_joined_expression (Joined p e f) = true
is_joined_expression e = false

joined_shape : (P : ℕ → PlacedTree) (t : ℕ → Expression) (p : Place) (rs : List ExprRow) (f : ExprShape) → ExprCanFollow rs f → is_joined_expression (shape_expression P t p f) ≡ is_joined_shape f
joined_shape P t p rs (seq_shape []) h = absurd (let k : 2 ≤ 0 = h.0 in omega arith)
joined_shape P t p rs (seq_shape (i ∷ [])) h = absurd (let k : 2 ≤ length (i ∷ []) = h.0 in omega arith)
joined_shape P t p rs (seq_shape (i ∷ (j ∷ is))) h = refl
joined_shape P t p rs empty_shape h = refl
joined_shape P t p rs (text_shape s) h = refl
joined_shape P t p rs (var_shape x) h = refl
joined_shape P t p rs (elem_shape l i) h = refl
joined_shape P t p rs (call_shape f is) h = refl
joined_shape P t p rs (match_shape i cs) h = refl

pub part_added : (rs older qs : List ExprRow) (i : ℕ) (p q : Place) (f g : ExprShape) → ExprCanFollow rs f → ExprCanFollow older g → is_joined_shape f ≡ false → i < length qs → shape_at qs i ≡ g →
    ((patterns : List Row) → expression_at patterns qs i ≡ shape_expression (placed_at patterns) (expression_at patterns rs) p f) →
    ((patterns : List Row) → expression_at patterns qs i ≡ shape_expression (placed_at patterns) (expression_at patterns qs) q g) → IsJoinedPart qs i
part_added rs older qs i p q f g h k a b e u v =
    (b, ap is_joined_shape e ∙ sym (joined_shape (placed_at []) (expression_at [] qs) q older g k) ∙ ap is_joined_expression (sym (v []) ∙ u []) ∙ joined_shape (placed_at []) (expression_at [] rs) p rs f h ∙ a)
