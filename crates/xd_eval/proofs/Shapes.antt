-- The shape of a node.
use Rattle.std.proofs.Common.{◌≡◌, ℕ, ◌<◌, ◌≤◌, arith, List, [], ◌∷◌, map, length, take, refl, sym, subst, ◌∙◌, inl, inr}
use Rattle.std.specs.List.{AllByRecursion}
use Rattle.xd_base.specs.declared.Place.{Place}
use Rattle.xd_syntax.specs.Table.{Row}
use Rattle.xd_syntax.specs.PlacedTable.{placed_at}
use Rattle.xd_syntax.specs.Expression.{Expression, Arguments, Clauses, joined, arguments_of, place_of_expression}
use Rattle.xd_syntax.specs.ExpressionTable.{ExprRow, ExprShape, empty_shape, text_shape, var_shape, elem_shape, seq_shape, call_shape, match_shape, shape_expression, expression_at, shape_at, ExprPartsBelow, ExprCanFollow, PatternsBelong, ShapePatternsBelong}
use Rattle.xd_syntax.specs.Kept.{ProgramTable}
use Rattle.xd_syntax.proofs.Members.{append_left, append_right}
use Rattle.xd_pattern_runs.specs.Clauses.{patterns_in, patterns_in_arguments, patterns_in_clauses}
use Rattle.xd_eval.specs.Machine.{AreLinear, IsOfClause, IsRunnable, IsShapeAt, PartsAreRunnable, clauses_in, expression_in}

-- what is so of an expression's parts, where the patterns in it are linear

part_runs : (p : ProgramTable) (n i : ℕ) → n ≤ length p.exprs → i < n → AreLinear (patterns_in (expression_in p i)) → IsRunnable p i
part_runs p n i l b h = record { there = omega arith; linear = h }

joined_run : (p : ProgramTable) (q : Place) (n : ℕ) → n ≤ length p.exprs → (is : List ℕ) → AllByRecursion (λ i. i < n) is → AreLinear (patterns_in (joined q (map (expression_in p) is))) → AllByRecursion (IsRunnable p) is
joined_run p q n l [] b h = tt
joined_run p q n l (i ∷ []) b h = (part_runs p n i l b.0 h, tt)
joined_run p q n l (i ∷ (j ∷ is)) b h =
    let e : Expression = expression_in p i in
    let rest : Expression = joined (place_of_expression (expression_in p j)) (map (expression_in p) (j ∷ is)) in (
      part_runs p n i l b.0 (λ A m. h A (append_left A (patterns_in e) (patterns_in rest) m)),
      joined_run p (place_of_expression (expression_in p j)) n l (j ∷ is) b.1 (λ A m. h A (append_right A (patterns_in e) (patterns_in rest) m)),
    )

arguments_run : (p : ProgramTable) (n : ℕ) → n ≤ length p.exprs → (is : List ℕ) → AllByRecursion (λ i. i < n) is → AreLinear (patterns_in_arguments (arguments_of (map (expression_in p) is))) → AllByRecursion (IsRunnable p) is
arguments_run p n l [] b h = tt
arguments_run p n l (i ∷ is) b h =
    let e : Expression = expression_in p i in
    let rest : Arguments = arguments_of (map (expression_in p) is) in (
      part_runs p n i l b.0 (λ A m. h A (append_left A (patterns_in e) (patterns_in_arguments rest) m)),
      arguments_run p n l is b.1 (λ A m. h A (append_right A (patterns_in e) (patterns_in_arguments rest) m)),
    )

clauses_run : (p : ProgramTable) (n : ℕ) → n ≤ length p.exprs → (cs : List (ℕ × ℕ)) → AllByRecursion (λ (c : ℕ × ℕ). c.1 < n) cs → AllByRecursion (λ (c : ℕ × ℕ). c.0 < length p.patterns) cs →
    AreLinear (patterns_in_clauses (clauses_in p cs)) → AllByRecursion (λ (c : ℕ × ℕ). IsOfClause p c.0 × IsRunnable p c.1) cs
clauses_run p n l [] b k h = tt
clauses_run p n l (c ∷ cs) b k h =
    let e : Expression = expression_in p c.1 in
    let rest : Clauses = clauses_in p cs in (
      (
        record { there = k.0; linear = h (placed_at p.patterns c.0) (inl refl) },
        part_runs p n c.1 l b.0 (λ A m. h A (inr (append_left A (patterns_in e) (patterns_in_clauses rest) m))),
      ),
      clauses_run p n l cs b.1 k.1 (λ A m. h A (inr (append_right A (patterns_in e) (patterns_in_clauses rest) m))),
    )

parts_run : (p : ProgramTable) (q : Place) (n : ℕ) → n ≤ length p.exprs → (f : ExprShape) → ExprPartsBelow n f → ShapePatternsBelong (length p.patterns) f →
    AreLinear (patterns_in (shape_expression (placed_at p.patterns) (expression_in p) q f)) → PartsAreRunnable p f
parts_run p q n l empty_shape b k h = tt
parts_run p q n l (text_shape s) b k h = tt
parts_run p q n l (var_shape x) b k h = tt
parts_run p q n l (elem_shape g i) b k h = part_runs p n i l b h
parts_run p q n l (seq_shape is) b k h = joined_run p q n l is b h
parts_run p q n l (call_shape g is) b k h = arguments_run p n l is b h
parts_run p q n l (match_shape i cs) b k h =
    let e : Expression = expression_in p i in
    let rest : Clauses = clauses_in p cs in (
      part_runs p n i l b.0 (λ A m. h A (append_left A (patterns_in e) (patterns_in_clauses rest) m)),
      clauses_run p n l cs b.1 k (λ A m. h A (append_right A (patterns_in e) (patterns_in_clauses rest) m)),
    )

pub is_shape : (p : ProgramTable) (es : List ExprRow) (i : ℕ) (r : ExprRow) (f : ExprShape) → es ≡ p.exprs → f ≡ r.form → IsRunnable p i →
    ((patterns : List Row) → expression_at patterns es i ≡ shape_expression (placed_at patterns) (expression_at patterns es) r.place r.form) →
    shape_at es i ≡ r.form → ExprPartsBelow i r.form → ExprCanFollow (take i es) r.form → ((n : ℕ) → PatternsBelong n es → ShapePatternsBelong n r.form) →
    PatternsBelong (length p.patterns) p.exprs → IsShapeAt p i f
is_shape p es i r f e g runs x s b m c k =
    let is : expression_in p i ≡ shape_expression (placed_at p.patterns) (expression_in p) r.place f =
    subst (λ h. expression_in p i ≡ shape_expression (placed_at p.patterns) (expression_in p) r.place h) (sym g)
    (subst (λ xs. expression_at p.patterns xs i ≡ shape_expression (placed_at p.patterns) (expression_at p.patterns xs) r.place r.form) e (x p.patterns)) in
    let there = runs.there in
    let belong : ShapePatternsBelong (length p.patterns) f =
    subst (ShapePatternsBelong (length p.patterns)) (sym g) (c (length p.patterns) (subst (PatternsBelong (length p.patterns)) (sym e) k)) in
    record {
      place = r.place;
      expression = is;
      shape = subst (λ xs. shape_at xs i ≡ f) e (s ∙ sym g);
      parts = parts_run p r.place i (omega arith) f (subst (ExprPartsBelow i) (sym g) b) belong (subst (λ y. AreLinear (patterns_in y)) is runs.linear);
      merged = subst (λ xs. ExprCanFollow (take i xs) f) e (subst (ExprCanFollow (take i es)) (sym g) m);
      patterns = belong;
    }
