use Rattle.std.proofs.Common.{ap, subst, ◌∙◌}
use Rattle.xd_syntax.specs.Kept.{ProgramTable, ProgramStands}
use Rattle.xd_syntax.specs.Exprs.{shape_of}
use Rattle.xd_eval.proofs.Shapes.{is_shape}
use Rattle.xd_eval.proofs.entering.form_of.Goals as goal

pub returns : goal.returns
returns c =
    let n = c.node.ensures in
    is_shape c.args.sound.now c.exprs.result.now c.args.id.at c.node.result.now (shape_of c.form.result.now)
    (c.exprs.ensures.exprs ∙ ap (λ (q : ProgramTable). q.exprs) c.program-program.ensures.program) c.form.ensures c.requires
    n.expression n.row n.parts n.merged n.clauses (subst ProgramStands c.program-program.ensures.program c.exprs.ensures.stands).clauses
