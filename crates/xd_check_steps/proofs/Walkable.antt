-- The parts of an expression that can be walked can be walked.
use Rattle.std.proofs.Common.{◌≡◌, ℕ, ◌<◌, ◌≤◌, arith, inl, inr, List, [], ◌∷◌, map, length, refl, ap, sym, subst, ◌∙◌}
use Rattle.std.specs.List.{AllByRecursion}
use Rattle.xd_base.specs.declared.Place.{Place}
use Rattle.xd_doc.specs.Members.{IsOneOf}
use Rattle.xd_syntax.specs.Placed.{PlacedTree, unplaced}
use Rattle.xd_syntax.specs.PlacedTable.{placed_at}
use Rattle.xd_syntax.specs.Expression.{Expression, Tagged, Called, Matched, arguments_of, joined, place_of_expression}
use Rattle.xd_syntax.specs.ExpressionTable.{ExprRow, ExprShape, clauses_of, expression_at, shape_expression}
use Rattle.xd_syntax.specs.Exprs.{expression}
use Rattle.xd_syntax.specs.Kept.{ProgramTable}
use Rattle.xd_syntax.specs.declared.exprs.ExprId.{ExprId}
use Rattle.xd_syntax.proofs.Members.{append_left, append_right}
use Rattle.xd_syntax.proofs.PlacedTrees.{unplaced_at}
use Rattle.xd_pattern_runs.specs.Linear.{IsLinear}
use Rattle.xd_pattern_runs.specs.Clauses.{patterns_in, patterns_in_arguments, patterns_in_clauses}
use Rattle.xd_check_steps.specs.Walkable.{CanBeWalked, ClauseCanBeWalked, expr_at}

-- what a node stands for, by its form
pub expr_is : (p : ProgramTable) (es : List ExprRow) (id : ExprId) (q : Place) (f g : ExprShape) → es ≡ p.exprs →
    expression p.patterns es id ≡ shape_expression (placed_at p.patterns) (expression_at p.patterns es) q f → f ≡ g → expr_at p id.at ≡ shape_expression (placed_at p.patterns) (expr_at p) q g
expr_is p es id q f g e h k =
    subst (λ (rs : List ExprRow). expression p.patterns rs id ≡ shape_expression (placed_at p.patterns) (expression_at p.patterns rs) q f) e h
    ∙ ap (shape_expression (placed_at p.patterns) (expr_at p) q) k

abbrev AreLinear : List PlacedTree → Type 0
AreLinear As = (A : PlacedTree) → IsOneOf A As → IsLinear (unplaced A)

linear_of : (p : ProgramTable) (n : ℕ) (e : Expression) → CanBeWalked p n → expr_at p n ≡ e → AreLinear (patterns_in e)
linear_of p n e h k A m = h.linear A (subst (λ x. IsOneOf A (patterns_in x)) (sym k) m)

pub walk_content : (p : ProgramTable) (n i : ℕ) (q : Place) (l : List ℕ) → CanBeWalked p n → expr_at p n ≡ Tagged q l (expr_at p i) → i < n → CanBeWalked p i
walk_content p n i q l h e k = let t = h.there in record { there = omega arith; linear = linear_of p n (Tagged q l (expr_at p i)) h e }

parts_linear : (q : Place) (es : List Expression) → AreLinear (patterns_in (joined q es)) → AllByRecursion (λ e. AreLinear (patterns_in e)) es
parts_linear q [] h = tt
parts_linear q (e ∷ []) h = (h, tt)
parts_linear q (e ∷ (f ∷ fs)) h = (
  (λ A m. h A (append_left A (patterns_in e) (patterns_in (joined (place_of_expression f) (f ∷ fs))) m)),
  parts_linear (place_of_expression f) (f ∷ fs) (λ A m. h A (append_right A (patterns_in e) (patterns_in (joined (place_of_expression f) (f ∷ fs))) m)),
)

arguments_linear : (es : List Expression) → AreLinear (patterns_in_arguments (arguments_of es)) → AllByRecursion (λ e. AreLinear (patterns_in e)) es
arguments_linear [] h = tt
arguments_linear (e ∷ es) h =
    ((λ A m. h A (append_left A (patterns_in e) (patterns_in_arguments (arguments_of es)) m)), arguments_linear es (λ A m. h A (append_right A (patterns_in e) (patterns_in_arguments (arguments_of es)) m)))

walk_all : (p : ProgramTable) (n : ℕ) (is : List ℕ) → n ≤ length p.exprs → AllByRecursion (λ i. i < n) is → AllByRecursion (λ e. AreLinear (patterns_in e)) (map (expr_at p) is) → AllByRecursion (CanBeWalked p) is
walk_all p n [] k b h = tt
walk_all p n (i ∷ is) k b h = (let c : i < n = b.0 in record { there = omega arith; linear = h.0 }, walk_all p n is k b.1 h.1)

pub walk_parts : (p : ProgramTable) (n : ℕ) (q : Place) (is : List ℕ) → CanBeWalked p n → expr_at p n ≡ joined q (map (expr_at p) is) → AllByRecursion (λ i. i < n) is → AllByRecursion (CanBeWalked p) is
walk_parts p n q is h e b =
    let t = h.there in
    let k : n ≤ length p.exprs = omega arith in
    walk_all p n is k b (parts_linear q (map (expr_at p) is) (linear_of p n (joined q (map (expr_at p) is)) h e))

pub walk_arguments : (p : ProgramTable) (n : ℕ) (q : Place) (f : List ℕ) (is : List ℕ) → CanBeWalked p n → expr_at p n ≡ Called q f (arguments_of (map (expr_at p) is)) → AllByRecursion (λ i. i < n) is →
    AllByRecursion (CanBeWalked p) is
walk_arguments p n q f is h e b =
    let t = h.there in
    let k : n ≤ length p.exprs = omega arith in
    walk_all p n is k b (arguments_linear (map (expr_at p) is) (linear_of p n (Called q f (arguments_of (map (expr_at p) is))) h e))

walk_each : (p : ProgramTable) (n : ℕ) (cs : List (ℕ × ℕ)) → n ≤ length p.exprs → AllByRecursion (λ (c : ℕ × ℕ). c.0 < length p.patterns) cs → AllByRecursion (λ (c : ℕ × ℕ). c.1 < n) cs →
    AreLinear (patterns_in_clauses (clauses_of (placed_at p.patterns) (expr_at p) cs)) → AllByRecursion (ClauseCanBeWalked p) cs
walk_each p n [] k a b h = tt
walk_each p n (c ∷ cs) k a b h =
    let d : c.1 < n = b.0 in
    let Q : PlacedTree = placed_at p.patterns c.0 in
    let rest : List PlacedTree = patterns_in_clauses (clauses_of (placed_at p.patterns) (expr_at p) cs) in (
      record {
        there = a.0;
        linear = subst IsLinear (unplaced_at p.patterns c.0) (h Q (inl refl));
        body = record { there = omega arith; linear = λ A m. h A (inr (append_left A (patterns_in (expr_at p c.1)) rest m)) };
      },
      walk_each p n cs k a.1 b.1 (λ A m. h A (inr (append_right A (patterns_in (expr_at p c.1)) rest m))),
    )

pub walk_scrutinee : (p : ProgramTable) (n i : ℕ) (q : Place) (cs : List (ℕ × ℕ)) → CanBeWalked p n → expr_at p n ≡ Matched q (expr_at p i) (clauses_of (placed_at p.patterns) (expr_at p) cs) → i < n → CanBeWalked p i
walk_scrutinee p n i q cs h e k =
    let t = h.there in
    let l = linear_of p n (Matched q (expr_at p i) (clauses_of (placed_at p.patterns) (expr_at p) cs)) h e in
    record { there = omega arith; linear = λ A m. l A (append_left A (patterns_in (expr_at p i)) (patterns_in_clauses (clauses_of (placed_at p.patterns) (expr_at p) cs)) m) }

pub walk_clauses : (p : ProgramTable) (n i : ℕ) (q : Place) (cs : List (ℕ × ℕ)) → CanBeWalked p n → expr_at p n ≡ Matched q (expr_at p i) (clauses_of (placed_at p.patterns) (expr_at p) cs) →
    AllByRecursion (λ (c : ℕ × ℕ). c.0 < length p.patterns) cs → AllByRecursion (λ (c : ℕ × ℕ). c.1 < n) cs → AllByRecursion (ClauseCanBeWalked p) cs
walk_clauses p n i q cs h e a b =
    let t = h.there in
    let k : n ≤ length p.exprs = omega arith in
    let l = linear_of p n (Matched q (expr_at p i) (clauses_of (placed_at p.patterns) (expr_at p) cs)) h e in
    walk_each p n cs k a b (λ A m. l A (append_right A (patterns_in (expr_at p i)) (patterns_in_clauses (clauses_of (placed_at p.patterns) (expr_at p) cs)) m))

-- the body of a function of a program whose patterns are linear
pub walk_body : (p : ProgramTable) (i : ℕ) → i < length p.exprs → AreLinear (patterns_in (expr_at p i)) → CanBeWalked p i
walk_body p i t h = record { there = t; linear = h }
