use Rattle.std.proofs.Common.{ap, map, sym, ◌∙◌, subst}
use Rattle.std.specs.List.{AllByRecursion}
use Rattle.xd_syntax.specs.ExpressionTable.{expression_at, IsJoinedPart}
use Rattle.xd_syntax.specs.Exprs.{expr_numbers}
use Rattle.xd_parse_trees.specs.Merged.{merged_expression}
use Rattle.xd_parse.proofs.JoinLemmas.{part_added}
use Rattle.xd_parse.proofs.joining.add_item.Goals as goal

pub returns-clause-expression : goal.returns-clause-expression
returns-clause-expression c = λ patterns. ap (λ ids. merged_expression c.args.place (map (expression_at patterns c.add.new.self) (expr_numbers ids))) c.in_ok-parts.ensures ∙ c.in_ok-id.ensures.expression patterns

pub returns-clause-stand : goal.returns-clause-stand
returns-clause-stand c =
    subst (λ ids. AllByRecursion (IsJoinedPart c.add.new.self) (expr_numbers ids)) (sym c.in_ok-parts.ensures)
    (part_added _ _ _ _ _ _ _ _ c.requires.follows c.node-node.ensures.merged c.requires.alone c.in_ok-id.ensures.belongs c.node-node.ensures.row c.in_ok-id.ensures.expression c.node-node.ensures.expression, tt)
