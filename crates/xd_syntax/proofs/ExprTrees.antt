-- The expressions of a table that grows.
use Rattle.std.proofs.Common.{◌≡◌, ℕ, zero, suc, ◌+◌, ◌<◌, arith, List, [], ◌∷◌, ◌++◌, map, length, take, get_or, refl, ap, sym, ◌∙◌, subst, length-append, append_assoc, append-nil, ◌≤◌}
use Rattle.std.specs.List.{AllByRecursion}
use Rattle.std.proofs.Math.ListN.{get_or-append}
use Rattle.std.proofs.Math.Seq.{get_or-append_seam}
use Rattle.xd_base.specs.declared.Place.{Place}
use Rattle.xd_syntax.specs.Table.{Row}
use Rattle.xd_syntax.specs.Placed.{PlacedTree}
use Rattle.xd_syntax.specs.PlacedTable.{placed_at, the_start}
use Rattle.xd_syntax.specs.Expression.{Expression, Nothing, Tagged, Called, joined, arguments_of, place_of_expression}
use Rattle.xd_syntax.specs.ExpressionTable.{ExprRow, ExprShape, empty_shape, text_shape, var_shape, elem_shape, seq_shape, call_shape, match_shape, clauses_of, shape_expression, expression_in, expressions_after, expression_at, IsJoinedPart, ExprCanFollow, ExprsAreBuiltAfter, ExprsAreBuilt, ExprPartsBelow, ShapePatternsBelong, PatternsBelong}
use Rattle.xd_syntax.specs.Exprs.{expr_numbers}
use Rattle.xd_syntax.specs.declared.exprs.ExprId.{ExprId}

pub joined_parts_below : (rs : List ExprRow) (is : List ℕ) → AllByRecursion (IsJoinedPart rs) is → AllByRecursion (λ i. i < length rs) is
joined_parts_below rs [] a = tt
joined_parts_below rs (i ∷ is) a = (a.0.0, joined_parts_below rs is a.1)

-- what may follow has parts that are older
pub parts_below : (rs : List ExprRow) (f : ExprShape) → ExprCanFollow rs f → ExprPartsBelow (length rs) f
parts_below rs empty_shape p = tt
parts_below rs (text_shape s) p = tt
parts_below rs (var_shape x) p = tt
parts_below rs (elem_shape l i) p = p
parts_below rs (seq_shape is) p = joined_parts_below rs is p.1
parts_below rs (call_shape f is) p = p.1
parts_below rs (match_shape i cs) p = (p.0, p.2)

built_push : (older rs : List ExprRow) (r : ExprRow) → ExprsAreBuiltAfter older rs → ExprCanFollow (older ++ rs) r.form → ExprsAreBuiltAfter older (rs ++ r ∷ [])
built_push older [] r a f = (subst (λ xs. ExprCanFollow xs r.form) (append-nil older) f, tt)
built_push older (q ∷ rs) r a f =
    (a.0, built_push (older ++ q ∷ []) rs r a.1 (subst (λ xs. ExprCanFollow xs r.form) (sym (append_assoc older (q ∷ []) rs)) f))

-- one more node
pub ExprsAreBuilt-push : (rs : List ExprRow) (r : ExprRow) → ExprsAreBuilt rs → ExprCanFollow rs r.form → ExprsAreBuilt (rs ++ r ∷ [])
ExprsAreBuilt-push rs r a f = built_push [] rs r a f

built_at : (older rs : List ExprRow) (j : ℕ) (d : ExprRow) → ExprsAreBuiltAfter older rs → j < length rs → ExprCanFollow (older ++ take j rs) (get_or rs j d).form
built_at older [] j d a h = absurd (omega arith)
built_at older (r ∷ rs) zero d a h = subst (λ xs. ExprCanFollow xs r.form) (sym (append-nil older)) a.0
built_at older (r ∷ rs) (suc j) d a h =
    subst (λ xs. ExprCanFollow xs (get_or rs j d).form) (append_assoc older (r ∷ []) (take j rs)) (built_at (older ++ r ∷ []) rs j d a.1 (omega arith))

-- a node may follow those before it
pub follows_at : (rs : List ExprRow) (j : ℕ) (d : ExprRow) → ExprsAreBuilt rs → j < length rs → ExprCanFollow (take j rs) (get_or rs j d).form
follows_at rs j d a h = built_at [] rs j d a h

-- a node's parts stand below it
pub parts_at : (rs : List ExprRow) (j : ℕ) (d : ExprRow) → ExprsAreBuilt rs → j < length rs → ExprPartsBelow j (get_or rs j d).form
parts_at rs j d a h =
    subst (λ n. ExprPartsBelow n (get_or rs j d).form) (length-take j rs h) (parts_below (take j rs) (get_or rs j d).form (follows_at rs j d a h))
  where
    length-take : (j : ℕ) (rs : List ExprRow) → j < length rs → length (take j rs) ≡ j
    length-take zero rs h = refl
    length-take (suc j) [] h = absurd (omega arith)
    length-take (suc j) (r ∷ rs) h = let i = length-take j rs (omega arith) in omega arith

-- a node's patterns are among so many where those of all nodes are
pub patterns_at : (n : ℕ) (rs : List ExprRow) (j : ℕ) (d : ExprRow) → PatternsBelong n rs → j < length rs → ShapePatternsBelong n (get_or rs j d).form
patterns_at n [] j d b h = absurd (omega arith)
patterns_at n (r ∷ rs) zero d b h = b.0
patterns_at n (r ∷ rs) (suc j) d b h = patterns_at n rs j d b.1 (omega arith)

same_parts : (t u : ℕ → Expression) (n : ℕ) → ((i : ℕ) → i < n → t i ≡ u i) → (is : List ℕ) → AllByRecursion (λ i. i < n) is → map t is ≡ map u is
same_parts t u n h [] a = refl
same_parts t u n h (i ∷ is) a = let e = h i a.0 in let k = same_parts t u n h is a.1 in cc

same_clauses : (P : ℕ → PlacedTree) (t u : ℕ → Expression) (n : ℕ) → ((i : ℕ) → i < n → t i ≡ u i) → (cs : List (ℕ × ℕ)) →
    AllByRecursion (λ (c : ℕ × ℕ). c.1 < n) cs → clauses_of P t cs ≡ clauses_of P u cs
same_clauses P t u n h [] a = refl
same_clauses P t u n h (c ∷ cs) a = let e = h c.1 a.0 in let k = same_clauses P t u n h cs a.1 in cc

same_shape : (P : ℕ → PlacedTree) (t u : ℕ → Expression) (n : ℕ) (p : Place) → ((i : ℕ) → i < n → t i ≡ u i) → (f : ExprShape) →
    ExprPartsBelow n f → shape_expression P t p f ≡ shape_expression P u p f
same_shape P t u n p h empty_shape k = refl
same_shape P t u n p h (text_shape s) k = refl
same_shape P t u n p h (var_shape x) k = refl
same_shape P t u n p h (elem_shape l i) k = ap (Tagged p l) (h i k)
same_shape P t u n p h (seq_shape is) k = ap (joined p) (same_parts t u n h is k)
same_shape P t u n p h (call_shape f is) k = ap (λ es. Called p f (arguments_of es)) (same_parts t u n h is k)
same_shape P t u n p h (match_shape i cs) k = let a = h i k.0 in let b = same_clauses P t u n h cs k.1 in cc

module _ (P : ℕ → PlacedTree) where
  after_append : (ts : List Expression) (rs qs : List ExprRow) → expressions_after P ts (rs ++ qs) ≡ expressions_after P (expressions_after P ts rs) qs
  after_append ts [] qs = refl
  after_append ts (r ∷ rs) qs = after_append (ts ++ shape_expression P (expression_in ts) r.place r.form ∷ []) rs qs

  after_length : (ts : List Expression) (rs : List ExprRow) → length (expressions_after P ts rs) ≡ length ts + length rs
  after_length ts [] = omega arith
  after_length ts (r ∷ rs) =
      let i = after_length (ts ++ shape_expression P (expression_in ts) r.place r.form ∷ []) rs in
      omega (arith, length-append ts (shape_expression P (expression_in ts) r.place r.form ∷ []))

  after_front : (ts : List Expression) (rs : List ExprRow) (i : ℕ) → i < length ts →
      get_or (expressions_after P ts rs) i (Nothing the_start) ≡ get_or ts i (Nothing the_start)
  after_front ts [] i h = refl
  after_front ts (r ∷ rs) i h =
      after_front (ts ++ shape_expression P (expression_in ts) r.place r.form ∷ []) rs i
      (omega (arith, length-append ts (shape_expression P (expression_in ts) r.place r.form ∷ [])))
      ∙ get_or-append ts (shape_expression P (expression_in ts) r.place r.form ∷ []) (Nothing the_start) i h

-- a table that has grown keeps the expressions of its old nodes
pub expression_kept : (patterns : List Row) (rs qs : List ExprRow) (i : ℕ) → i < length rs → expression_at patterns (rs ++ qs) i ≡ expression_at patterns rs i
unfolding expression_at
expression_kept patterns rs qs i h =
    let e = after_length (placed_at patterns) [] rs in
    ap (λ ts. get_or ts i (Nothing the_start)) (after_append (placed_at patterns) [] rs qs)
    ∙ after_front (placed_at patterns) (expressions_after (placed_at patterns) [] rs) qs i (omega arith)

-- the new node has the expression of its shape
pub expression_new : (patterns : List Row) (rs : List ExprRow) (r : ExprRow) →
    expression_at patterns (rs ++ r ∷ []) (length rs) ≡ shape_expression (placed_at patterns) (expression_at patterns rs) r.place r.form
unfolding expression_at
expression_new patterns rs r =
    let P : ℕ → PlacedTree = placed_at patterns in
    let es : List Expression = expressions_after P [] rs in
    let e = after_length P [] rs in
    let l : length es ≡ length rs = omega arith in
    ap (λ ts. get_or ts (length rs) (Nothing the_start)) (after_append P [] rs (r ∷ []))
    ∙ subst (λ n. get_or (es ++ shape_expression P (expression_in es) r.place r.form ∷ []) n (Nothing the_start) ≡ shape_expression P (expression_in es) r.place r.form) l
    (get_or-append_seam es (shape_expression P (expression_in es) r.place r.form) [] (Nothing the_start))

expression_node : (patterns : List Row) (older rs : List ExprRow) (j : ℕ) (d : ExprRow) → ExprsAreBuiltAfter older rs → j < length rs →
    expression_at patterns (older ++ rs) (length older + j)
    ≡ shape_expression (placed_at patterns) (expression_at patterns (older ++ rs)) (get_or rs j d).place (get_or rs j d).form
expression_node patterns older [] j d a h = absurd (omega arith)
expression_node patterns older (r ∷ rs) zero d a h =
    let e : length older + 0 ≡ length older = omega arith in
    let l : length older < length (older ++ r ∷ []) = omega (arith, length-append older (r ∷ [])) in
    ap (expression_at patterns (older ++ r ∷ rs)) e
    ∙ ap (λ xs. expression_at patterns xs (length older)) (sym (append_assoc older (r ∷ []) rs))
    ∙ expression_kept patterns (older ++ r ∷ []) rs (length older) l
    ∙ expression_new patterns older r
    ∙ same_shape (placed_at patterns) (expression_at patterns older) (expression_at patterns (older ++ r ∷ rs)) (length older) r.place
    (λ i k. sym (expression_kept patterns older (r ∷ rs) i k)) r.form (parts_below older r.form a.0)
expression_node patterns older (r ∷ rs) (suc j) d a h =
    let e : length (older ++ r ∷ []) + j ≡ length older + suc j = omega (arith, length-append older (r ∷ [])) in
    let i = expression_node patterns (older ++ r ∷ []) rs j d a.1 (omega arith) in
    subst (λ xs. expression_at patterns xs (length older + suc j) ≡ shape_expression (placed_at patterns) (expression_at patterns xs) (get_or rs j d).place (get_or rs j d).form)
    (append_assoc older (r ∷ []) rs)
    (subst (λ n. expression_at patterns ((older ++ r ∷ []) ++ rs) n
    ≡ shape_expression (placed_at patterns) (expression_at patterns ((older ++ r ∷ []) ++ rs)) (get_or rs j d).place (get_or rs j d).form) e i)

-- the expression of a node is that of its shape
pub expression_is : (patterns : List Row) (rs : List ExprRow) (i : ℕ) (d : ExprRow) → ExprsAreBuilt rs → i < length rs →
    expression_at patterns rs i ≡ shape_expression (placed_at patterns) (expression_at patterns rs) (get_or rs i d).place (get_or rs i d).form
expression_is patterns rs i d a h = let e : 0 + i ≡ i = omega arith in
    subst (λ n. expression_at patterns rs n ≡ shape_expression (placed_at patterns) (expression_at patterns rs) (get_or rs i d).place (get_or rs i d).form) e
    (expression_node patterns [] rs i d a h)

pub place_of_shape : (P : ℕ → PlacedTree) (t : ℕ → Expression) (p : Place) (rs : List ExprRow) (f : ExprShape) → ExprCanFollow rs f → place_of_expression (shape_expression P t p f) ≡ p
place_of_shape P t p rs empty_shape h = refl
place_of_shape P t p rs (text_shape s) h = refl
place_of_shape P t p rs (var_shape x) h = refl
place_of_shape P t p rs (elem_shape l i) h = refl
place_of_shape P t p rs (seq_shape []) h = absurd (let l : 2 ≤ 0 = h.0 in omega arith)
place_of_shape P t p rs (seq_shape (i ∷ [])) h = absurd (let l : 2 ≤ 1 = h.0 in omega arith)
place_of_shape P t p rs (seq_shape (i ∷ (j ∷ js))) h = refl
place_of_shape P t p rs (call_shape f is) h = refl
place_of_shape P t p rs (match_shape i cs) h = refl

pub count_numbers : (ids : List ExprId) → length (expr_numbers ids) ≡ length ids
count_numbers [] = refl
count_numbers (i ∷ ids) = ap suc (count_numbers ids)
