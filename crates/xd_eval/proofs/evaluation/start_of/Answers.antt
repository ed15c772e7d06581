use Rattle.std.proofs.Common.{[], ◌∷◌, ap, sym, subst, ◌∙◌}
use Rattle.std.specs.Option.{option_copied}
use Rattle.xd_syntax.specs.Kept.{ProgramTable, ProgramStands}
use Rattle.xd_eval.specs.Functions.{row_of}
use Rattle.xd_eval.specs.Machine.{bound_values}
use Rattle.xd_eval.specs.declared.joins.Value.{Value}
use Rattle.xd_eval.proofs.AcceptedLemmas.{started}
use Rattle.xd_eval.proofs.evaluation.start_of.Goals as goal

pub returns : goal.returns
returns c =
    let p = c.args.program.sound.now in
    let functions = c.functions-functions.ensures.functions ∙ ap (λ (q : ProgramTable). q.functions) c.program.ensures.program in
    started p c.args.store.now c.args.input c.in-Some.function.now c.body.result c.in_ok-scope.scope
    (ap (row_of p.functions) (sym c.in_ok-main.ensures) ∙ ap (λ fs. row_of fs c.in_ok-main.main) (sym functions) ∙ sym c.find.ensures ∙ ap option_copied c.in-Some.is)
    (subst ProgramStands c.program.ensures.program c.functions-functions.ensures.stands) c.program.ensures.sound c.body.ensures
    (c.in_ok-scope.ensures ∙ c.in_ok-bound.ensures ∙ ap (λ qs. bound_values qs (c.of.result ∷ [])) c.params.ensures.params ∙ ap (λ (v : Value). bound_values c.in-Some.function.now.params (v ∷ [])) c.of.ensures) c.requires.input
