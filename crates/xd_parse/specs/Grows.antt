-- The tables of patterns and expressions as they grow.
use Rattle.std.specs.Prelude.{List, length}
use Rattle.xd_syntax.specs.Table.{Row, KeepsRows}
use Rattle.xd_syntax.specs.ExpressionTable.{ExprRow, KeepsExprs, PatternsBelong}

-- each old node stands where it stood, and the pattern of each clause is there
pub record Grows (old_patterns : List Row) (old_exprs : List ExprRow) (new_patterns : List Row) (new_exprs : List ExprRow) : Type 0 where
  pub rows : KeepsRows old_patterns new_patterns
  pub nodes : KeepsExprs old_exprs new_exprs
  pub clauses : PatternsBelong (length new_patterns) new_exprs
