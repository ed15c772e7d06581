-- The expressions that a walk can be asked for.
use Rattle.std.specs.Prelude.{ℕ, ◌<◌, length}
use Rattle.xd_doc.specs.Members.{IsOneOf}
use Rattle.xd_syntax.specs.Table.{tree_at}
use Rattle.xd_syntax.specs.Placed.{PlacedTree, unplaced}
use Rattle.xd_syntax.specs.Expression.{Expression}
use Rattle.xd_syntax.specs.ExpressionTable.{expression_at}
use Rattle.xd_syntax.specs.Kept.{ProgramTable}
use Rattle.xd_pattern_runs.specs.Linear.{IsLinear}
use Rattle.xd_pattern_runs.specs.Clauses.{patterns_in}

-- the expression of the node with this number
abbrev pub expr_at : ProgramTable → ℕ → Expression
expr_at p i = expression_at p.patterns p.exprs i

-- the node is there, and the patterns of the clauses in it are linear
pub record CanBeWalked (p : ProgramTable) (i : ℕ) : Type 0 where
  pub there : i < length p.exprs
  pub linear : (A : PlacedTree) → IsOneOf A (patterns_in (expr_at p i)) → IsLinear (unplaced A)

-- the same of a clause, as the numbers of its pattern and its body
pub record ClauseCanBeWalked (p : ProgramTable) (c : ℕ × ℕ) : Type 0 where
  pub there : c.0 < length p.patterns
  pub linear : IsLinear (tree_at p.patterns c.0)
  pub body : CanBeWalked p c.1
