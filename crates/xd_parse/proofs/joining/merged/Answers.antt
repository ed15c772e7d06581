use Rattle.std.proofs.Common.{◌≡◌, ◌≤◌, List, length, map, get_or, sym, ap, subst, ◌∙◌}
use Rattle.std.proofs.lemmas.Result.{IfOk-weaker}
use Rattle.xd_syntax.specs.PlacedTable.{placed_at}
use Rattle.xd_syntax.specs.Table.{Row}
use Rattle.xd_syntax.specs.ExpressionTable.{ExprRow, expression_at}
use Rattle.xd_syntax.specs.Expression.{joined, place_of_expression}
use Rattle.xd_syntax.specs.Exprs.{expr_numbers, expression}
use Rattle.xd_syntax.specs.declared.exprs.ExprId.{ExprId}
use Rattle.xd_syntax.proofs.ExprTrees.{place_of_shape}
use Rattle.xd_parse_trees.specs.Merged.{merged_expression}
use Rattle.xd_parse.proofs.JoinLemmas.{merged_is}
use Rattle.xd_parse.proofs.joining.merged.Goals as goal

pub returns-in-len1-up-clause-value : goal.returns-in-len1-up-clause-value
returns-in-len1-up-clause-value c =
    let rs : List ExprRow = c.args.exprs.now in
    let d : ExprId = record { at = 0 } in
    let l : 2 ≤ length c.args.parts.items = subst (λ (xs : List ExprId). 2 ≤ length xs) c.as_slice.ensures.value c.in-len1-up.len_at_least in
    let place : (patterns : List Row) → c.place-place.result ≡ place_of_expression (expression patterns rs (get_or c.args.parts.items 0 d)) =
    λ patterns. c.place-place.ensures
    ∙ sym (place_of_shape (placed_at patterns) (expression_at patterns rs) c.node.result.now.place _ c.node.result.now.form c.node.ensures.merged)
    ∙ sym (ap place_of_expression (c.node.ensures.expression patterns))
    ∙ ap (λ (xs : List ExprId). place_of_expression (expression patterns rs (get_or xs 0 d))) c.as_slice.ensures.value in
    IfOk-weaker c.add-in-len1-up.result
    (λ (id : ExprId). (patterns : List Row) → expression patterns c.add-in-len1-up.new.self id ≡ joined c.place-place.result (map (expression_at patterns rs) (expr_numbers c.args.parts.items)))
    (λ (id : ExprId). (patterns : List Row) → expression patterns c.add-in-len1-up.new.self id ≡ merged_expression c.args.place (map (expression patterns rs) c.args.parts.items))
    (λ id h patterns. h patterns ∙ merged_is patterns rs c.args.place c.place-place.result c.args.parts.items d l (place patterns))
    c.add-in-len1-up.ensures.expression
