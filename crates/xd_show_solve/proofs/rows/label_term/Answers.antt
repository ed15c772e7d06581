use Rattle.std.proofs.Common.{sym, ap, ◌∙◌, subst}
use Rattle.xd_syntax.specs.Table.{tree_at}
use Rattle.xd_syntax.specs.Tree.{Elem}
use Rattle.xd_show_solve.specs.Levels.{IsLabelProduct}
use Rattle.xd_show_solve.proofs.SideLaws.{a_product}
use Rattle.xd_show_solve.proofs.LevelLaws.{label_product}
use Rattle.xd_show_solve.proofs.rows.label_term.Goals as goal

pub returns-clause-product : goal.returns-clause-product
returns-clause-product c = λ a.
    let rows = c.args.pool.now.types in
    let content = c.written_at-content.result in
    let e = c.in_ok-by.ensures.tree ∙ ap (λ k. Elem k (tree_at rows content.at)) c.in_ok-share.ensures.same in
    subst (λ T. IsLabelProduct a rows c.args.written.now c.args.places.now c.args.step.now (a_product T c.place_at-to.result)) (sym e)
    (label_product a rows c.args.written.now c.args.places.now c.args.step.now content c.place_at-to.result c.written_at-content.ensures c.place_at-to.ensures)
