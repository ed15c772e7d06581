use Rattle.std.proofs.Common.{ap, map, sym, ◌∙◌}
use Rattle.std.proofs.lemmas.Result.{IfOk-weaker}
use Rattle.xd_syntax.specs.ExpressionTable.{expression_at}
use Rattle.xd_syntax.specs.Exprs.{expression}
use Rattle.xd_parse_trees.specs.Merged.{merged_expression}
use Rattle.xd_parse.proofs.JoinLemmas.{numbers_map}
use Rattle.xd_parse.proofs.joining.to_expr.Goals as goal

pub returns-clause-value : goal.returns-clause-value
returns-clause-value c =
    let es = c.args.exprs.now in
    let items = c.args.items in
    IfOk-weaker c.merged.result _ _
    (λ id h patterns. h patterns ∙ ap (merged_expression items.place) (ap (map (expression patterns es)) c.into_vec.ensures.items ∙ sym (numbers_map (expression_at patterns es) items.parts.items)))
    c.merged.ensures.value
