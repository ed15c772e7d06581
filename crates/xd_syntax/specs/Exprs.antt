-- Expressions as the program keeps them.
use Rattle.std.specs.Prelude.{ℕ, ◌<◌, List, map, length}
use Rattle.xd_syntax.specs.Table.{Row}
use Rattle.xd_syntax.specs.Expression.{Expression}
use Rattle.xd_syntax.specs.ExpressionTable.{ExprRow, ExprShape, empty_shape, text_shape, var_shape, elem_shape, seq_shape, call_shape, match_shape, expression_at}
use Rattle.xd_syntax.specs.declared.exprs.ExprId.{ExprId}
use Rattle.xd_syntax.specs.declared.exprs.Clause.{Clause}
use Rattle.xd_syntax.specs.declared.exprs.ExprForm.{ExprForm}
use Rattle.xd_syntax.specs.declared.exprs.ExprForm.TheVariants.{Empty, Text, Var, Elem, Seq, Call, Match}

abbrev pub expr_numbers : List ExprId → List ℕ
expr_numbers ids = map (λ id. id.at) ids

abbrev pub clause_numbers : List Clause → List (ℕ × ℕ)
clause_numbers cs = map (λ c. (c.pattern.at, c.body.at)) cs

abbrev pub shape_of : ExprForm → ExprShape
shape_of Empty = empty_shape
shape_of (Text s) = text_shape s
shape_of (Var x) = var_shape x
shape_of (Elem l i) = elem_shape l i.at
shape_of (Seq parts) = seq_shape (expr_numbers parts.items)
shape_of (Call f arguments) = call_shape f (expr_numbers arguments.items)
shape_of (Match i clauses) = match_shape i.at (clause_numbers clauses.items)

-- the id's node is one of these
abbrev pub IsExpr : List ExprRow → ExprId → Type 0
IsExpr exprs id = id.at < length exprs

-- the expression of a node over these patterns
abbrev pub expression : List Row → List ExprRow → ExprId → Expression
expression patterns exprs id = expression_at patterns exprs id.at
