use Rattle.std.proofs.Common.{◌≡◌, ap, sym, subst, ◌∙◌, List, take}
use Rattle.xd_syntax.specs.Kept.{ProgramTable}
use Rattle.xd_syntax.specs.PlacedTable.{placed_at}
use Rattle.xd_syntax.specs.ExpressionTable.{ExprRow, expression_at, shape_expression}
use Rattle.xd_syntax.specs.Expression.{place_of_expression}
use Rattle.xd_syntax.specs.Exprs.{expression}
use Rattle.xd_syntax.proofs.ExprTrees.{place_of_shape}
use Rattle.xd_check.proofs.checker.Checker.place_of.Goals as goal

pub returns : goal.returns
returns c =
    let p : ProgramTable = c.args.self.now.sound in
    let same : c.exprs.result.now ≡ p.exprs = c.exprs.ensures.exprs ∙ ap (λ (q : ProgramTable). q.exprs) c.program.ensures.program in
    let n = c.node.result.now in
    let tree = subst (λ (es : List ExprRow). expression p.patterns es c.args.id ≡ shape_expression (placed_at p.patterns) (expression_at p.patterns es) n.place n.form) same (c.node.ensures.expression p.patterns) in
    c.place.ensures ∙ sym (ap place_of_expression tree ∙ place_of_shape (placed_at p.patterns) (expression_at p.patterns p.exprs) n.place (take c.args.id.at c.exprs.result.now) n.form c.node.ensures.merged)
