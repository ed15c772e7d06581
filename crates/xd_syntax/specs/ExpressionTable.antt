-- Expressions in a table of nodes.
use Rattle.std.specs.Prelude.{◌≡◌, ℕ, ◌<◌, ◌≤◌, Bool, true, false, List, [], ◌∷◌, ◌++◌, map, length, get_or}
use Rattle.std.specs.List.{AllByRecursion}
use Rattle.xd_base.specs.declared.Place.{Place}
use Rattle.xd_syntax.specs.Placed.{PlacedTree}
use Rattle.xd_syntax.specs.PlacedTable.{placed_at, the_start}
use Rattle.xd_syntax.specs.Table.{Row}
use Rattle.xd_syntax.specs.Expression.{Called, Clauses, Expression, Matched, Nothing, Quoted, Tagged, Variable, arguments_of, clause, joined, no_clause}

-- what a node is; its parts are numbers of nodes, and a clause is the numbers of its pattern and
-- its body
pub data ExprShape : Type 0 where
  empty_shape : ExprShape
  text_shape : (characters : List ℕ) → ExprShape
  var_shape : (variable : List ℕ) → ExprShape
  elem_shape : (label : List ℕ) (content : ℕ) → ExprShape
  seq_shape : (parts : List ℕ) → ExprShape
  call_shape : (function : List ℕ) (arguments : List ℕ) → ExprShape
  match_shape : (scrutinee : ℕ) (clauses : List (ℕ × ℕ)) → ExprShape

pub record ExprRow : Type 0 where
  pub place : Place
  pub form : ExprShape

abbrev pub clauses_of : (ℕ → PlacedTree) → (ℕ → Expression) → List (ℕ × ℕ) → Clauses
clauses_of P t [] = no_clause
clauses_of P t (c ∷ cs) = clause (P c.0) (t c.1) (clauses_of P t cs)

-- the expression of a row, where these are the patterns and the expressions of its parts
abbrev pub shape_expression : (ℕ → PlacedTree) → (ℕ → Expression) → Place → ExprShape → Expression
shape_expression P t p empty_shape = Nothing p
shape_expression P t p (text_shape s) = Quoted p s
shape_expression P t p (var_shape x) = Variable p x
shape_expression P t p (elem_shape l i) = Tagged p l (t i)
shape_expression P t p (seq_shape is) = joined p (map t is)
shape_expression P t p (call_shape f is) = Called p f (arguments_of (map t is))
shape_expression P t p (match_shape i cs) = Matched p (t i) (clauses_of P t cs)

abbrev pub expression_in : List Expression → ℕ → Expression
expression_in es i = get_or es i (Nothing the_start)

abbrev pub expressions_after : (ℕ → PlacedTree) → List Expression → List ExprRow → List Expression
expressions_after P es [] = es
expressions_after P es (r ∷ rs) = expressions_after P (es ++ shape_expression P (expression_in es) r.place r.form ∷ []) rs

-- the expression of the node with this number
unfoldable pub expression_at : (patterns : List Row) → List ExprRow → ℕ → Expression
expression_at patterns rs i = expression_in (expressions_after (placed_at patterns) [] rs) i

-- a sequence joins the parts of a sequence that stands in it, and drops what is empty
abbrev pub is_joined_shape : ExprShape → Bool
is_joined_shape (seq_shape is) = true
is_joined_shape empty_shape = true
is_joined_shape _ = false

-- the shape of the row with this number
abbrev pub shape_at : List ExprRow → ℕ → ExprShape
shape_at rs i = (get_or rs i (record { place = the_start; form = empty_shape })).form

abbrev pub IsExprPart : List ExprRow → ℕ → Type 0
IsExprPart rs i = i < length rs

-- a part of a sequence is neither a sequence nor empty
abbrev pub IsJoinedPart : List ExprRow → ℕ → Type 0
IsJoinedPart rs i = IsExprPart rs i × (is_joined_shape (shape_at rs i) ≡ false)

-- The shape may be the next node. Sequences are merged, a call has an argument, a match a clause.
abbrev pub ExprCanFollow : List ExprRow → ExprShape → Type 0
ExprCanFollow rs (elem_shape l i) = IsExprPart rs i
ExprCanFollow rs (seq_shape is) = (2 ≤ length is) × AllByRecursion (IsJoinedPart rs) is
ExprCanFollow rs (call_shape f is) = (1 ≤ length is) × AllByRecursion (IsExprPart rs) is
ExprCanFollow rs (match_shape i cs) = IsExprPart rs i × (1 ≤ length cs) × AllByRecursion (λ c. IsExprPart rs c.1) cs
ExprCanFollow rs _ = Unit {0}

abbrev pub ExprsAreBuiltAfter : List ExprRow → List ExprRow → Type 0
ExprsAreBuiltAfter older [] = Unit {0}
ExprsAreBuiltAfter older (r ∷ rs) = ExprCanFollow older r.form × ExprsAreBuiltAfter (older ++ r ∷ []) rs

-- each node may follow the older ones
abbrev pub ExprsAreBuilt : List ExprRow → Type 0
ExprsAreBuilt rs = ExprsAreBuiltAfter [] rs

-- each clause's pattern is one of so many
abbrev pub ShapePatternsBelong : ℕ → ExprShape → Type 0
ShapePatternsBelong n (match_shape i cs) = AllByRecursion (λ c. c.0 < n) cs
ShapePatternsBelong n _ = Unit {0}

abbrev pub PatternsBelong : ℕ → List ExprRow → Type 0
PatternsBelong n rs = AllByRecursion (λ r. ShapePatternsBelong n r.form) rs

-- each part's number is below n
abbrev pub ExprPartsBelow : ℕ → ExprShape → Type 0
ExprPartsBelow n (elem_shape l i) = i < n
ExprPartsBelow n (seq_shape is) = AllByRecursion (λ i. i < n) is
ExprPartsBelow n (call_shape f is) = AllByRecursion (λ i. i < n) is
ExprPartsBelow n (match_shape i cs) = (i < n) × AllByRecursion (λ c. c.1 < n) cs
ExprPartsBelow n _ = Unit {0}

-- each old node stands where it stood
pub record KeepsExprs (old new : List ExprRow) : Type 0 where
  pub more : List ExprRow
  pub grown : new ≡ old ++ more
