-- What stays as the tables grow.
use Rattle.std.proofs.Common.{◌≡◌, ℕ, ◌<◌, arith, List, [], ◌∷◌, ◌++◌, length, map, refl, sym, ap, subst, ◌∙◌, length-append, append_assoc, append-nil}
use Rattle.std.specs.List.{AllByRecursion}
use Rattle.xd_base.specs.declared.Place.{Place}
use Rattle.xd_syntax.specs.Placed.{PlacedTree}
use Rattle.xd_syntax.specs.PlacedTable.{placed_at}
use Rattle.xd_syntax.specs.Table.{Row}
use Rattle.xd_syntax.specs.Expression.{Expression}
use Rattle.xd_syntax.specs.ExpressionTable.{ExprRow, ExprShape, empty_shape, text_shape, var_shape, elem_shape, seq_shape, call_shape, match_shape, clauses_of, shape_expression, expression_in, expressions_after, expression_at, KeepsExprs, ShapePatternsBelong, PatternsBelong}
use Rattle.xd_syntax.proofs.PlacedTrees.{placed_kept}
use Rattle.xd_syntax.proofs.ExprTrees.{expression_kept}
use Rattle.xd_syntax.proofs.TableRows.{KeepsRows-trans}
use Rattle.xd_parse_trees.proofs.Kept.{KeepsRows-refl}
use Rattle.xd_parse.specs.Grows.{Grows}

-- ---- more patterns
clauses_same : (P Q : ℕ → PlacedTree) (t : ℕ → Expression) (n : ℕ) → ((i : ℕ) → i < n → Q i ≡ P i) → (cs : List (ℕ × ℕ)) → AllByRecursion (λ (c : ℕ × ℕ). c.0 < n) cs → clauses_of Q t cs ≡ clauses_of P t cs
clauses_same P Q t n h [] a = refl
clauses_same P Q t n h (c ∷ cs) a = let e = h c.0 a.0 in let k = clauses_same P Q t n h cs a.1 in cc

shape_same : (P Q : ℕ → PlacedTree) (t : ℕ → Expression) (n : ℕ) (p : Place) → ((i : ℕ) → i < n → Q i ≡ P i) → (f : ExprShape) → ShapePatternsBelong n f → shape_expression Q t p f ≡ shape_expression P t p f
shape_same P Q t n p h empty_shape a = refl
shape_same P Q t n p h (text_shape s) a = refl
shape_same P Q t n p h (var_shape x) a = refl
shape_same P Q t n p h (elem_shape l i) a = refl
shape_same P Q t n p h (seq_shape is) a = refl
shape_same P Q t n p h (call_shape f is) a = refl
shape_same P Q t n p h (match_shape i cs) a = let k = clauses_same P Q t n h cs a in cc

after_same : (P Q : ℕ → PlacedTree) (n : ℕ) → ((i : ℕ) → i < n → Q i ≡ P i) → (ts : List Expression) (rs : List ExprRow) → PatternsBelong n rs → expressions_after Q ts rs ≡ expressions_after P ts rs
after_same P Q n h ts [] a = refl
after_same P Q n h ts (r ∷ rs) a =
    ap (λ (e : Expression). expressions_after Q (ts ++ e ∷ []) rs) (shape_same P Q (expression_in ts) n r.place h r.form a.0)
    ∙ after_same P Q n h (ts ++ shape_expression P (expression_in ts) r.place r.form ∷ []) rs a.1

-- more patterns change no expression whose patterns were there
pub expression_patterns : (ps qs : List Row) (rs : List ExprRow) (i : ℕ) → PatternsBelong (length ps) rs → expression_at (ps ++ qs) rs i ≡ expression_at ps rs i
unfolding expression_at
expression_patterns ps qs rs i a =
    ap (λ es. expression_in es i) (after_same (placed_at ps) (placed_at (ps ++ qs)) (length ps) (λ j h. placed_kept ps qs j h) [] rs a)

pub belong_push : (n : ℕ) (rs : List ExprRow) (r : ExprRow) → PatternsBelong n rs → ShapePatternsBelong n r.form → PatternsBelong n (rs ++ r ∷ [])
belong_push n [] r a b = (b, tt)
belong_push n (q ∷ rs) r a b = (a.0, belong_push n rs r a.1 b)

-- ---- how tables grow
pub KeepsExprs-refl : (es : List ExprRow) → KeepsExprs es es
KeepsExprs-refl es = record { more = []; grown = sym (append-nil es) }

pub KeepsExprs-trans : (es fs gs : List ExprRow) → KeepsExprs es fs → KeepsExprs fs gs → KeepsExprs es gs
KeepsExprs-trans es fs gs a b = record { more = a.more ++ b.more; grown = b.grown ∙ ap (λ xs. xs ++ b.more) a.grown ∙ append_assoc es a.more b.more }

pub IsExpr-more : (es fs : List ExprRow) (i : ℕ) → KeepsExprs es fs → i < length es → i < length fs
IsExpr-more es fs i k h = let e = ap length k.grown in omega (arith, length-append es k.more, e)

pub Grows-refl : (ps : List Row) (es : List ExprRow) → PatternsBelong (length ps) es → Grows ps es ps es
Grows-refl ps es a = record { rows = KeepsRows-refl ps; nodes = KeepsExprs-refl es; clauses = a }

pub Grows-trans : (ps : List Row) (es : List ExprRow) (qs : List Row) (fs : List ExprRow) (rs : List Row) (gs : List ExprRow) → Grows ps es qs fs → Grows qs fs rs gs → Grows ps es rs gs
Grows-trans ps es qs fs rs gs a b = record { rows = KeepsRows-trans ps qs rs a.rows b.rows; nodes = KeepsExprs-trans es fs gs a.nodes b.nodes; clauses = b.clauses }

-- one more node
pub Grows-node : (ps : List Row) (es fs : List ExprRow) (r : ExprRow) → PatternsBelong (length ps) es → fs ≡ es ++ r ∷ [] → ShapePatternsBelong (length ps) r.form → Grows ps es ps fs
Grows-node ps es fs r a e b = record {
  rows = KeepsRows-refl ps;
  nodes = record { more = r ∷ []; grown = e };
  clauses = subst (PatternsBelong (length ps)) (sym e) (belong_push (length ps) es r a b);
}

-- an old expression stays what it was
pub same_expression : (ps : List Row) (es : List ExprRow) (qs : List Row) (fs : List ExprRow) (i : ℕ) → Grows ps es qs fs → PatternsBelong (length ps) es → i < length es → expression_at qs fs i ≡ expression_at ps es i
same_expression ps es qs fs i g a h =
    ap (λ xs. expression_at qs xs i) g.nodes.grown
    ∙ expression_kept qs es g.nodes.more i h
    ∙ ap (λ xs. expression_at xs es i) g.rows.grown
    ∙ expression_patterns ps g.rows.more es i a

-- and so do lists of them
pub IsExprPart-more : (es fs : List ExprRow) (is : List ℕ) → KeepsExprs es fs → AllByRecursion (λ i. i < length es) is → AllByRecursion (λ i. i < length fs) is
IsExprPart-more es fs [] k a = tt
IsExprPart-more es fs (i ∷ is) k a = (IsExpr-more es fs i k a.0, IsExprPart-more es fs is k a.1)

pub same_expressions : (ps : List Row) (es : List ExprRow) (qs : List Row) (fs : List ExprRow) (is : List ℕ) → Grows ps es qs fs → PatternsBelong (length ps) es → AllByRecursion (λ i. i < length es) is → map (expression_at qs fs) is ≡ map (expression_at ps es) is
same_expressions ps es qs fs [] g a b = refl
same_expressions ps es qs fs (i ∷ is) g a b = let e = same_expression ps es qs fs i g a b.0 in let k = same_expressions ps es qs fs is g a b.1 in cc

pub push_part : (n : ℕ) (is : List ℕ) (i : ℕ) → AllByRecursion (λ j. j < n) is → i < n → AllByRecursion (λ j. j < n) (is ++ i ∷ [])
push_part n [] i a h = (h, tt)
push_part n (j ∷ is) i a h = (a.0, push_part n is i a.1 h)
