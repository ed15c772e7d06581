-- What was read of an expression, before a node is made of it.
use Rattle.std.specs.Prelude.{List, map}
use Rattle.std.specs.List.{AllByRecursion}
use Rattle.xd_syntax.specs.Table.{Row}
use Rattle.xd_syntax.specs.Expression.{Expression}
use Rattle.xd_syntax.specs.ExpressionTable.{ExprRow, expression_at, IsJoinedPart}
use Rattle.xd_syntax.specs.Exprs.{expr_numbers}
use Rattle.xd_parse_trees.specs.Merged.{merged_expression}
use Rattle.xd_parse.specs.declared.joining.Items.{Items}

abbrev pub expression_of : List Row → List ExprRow → Items → Expression
expression_of patterns rows items = merged_expression items.place (map (expression_at patterns rows) (expr_numbers items.parts.items))

abbrev pub AreItems : List ExprRow → Items → Type 0
AreItems rows items = AllByRecursion (IsJoinedPart rows) (expr_numbers items.parts.items)
