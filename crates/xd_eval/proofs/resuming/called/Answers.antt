use Rattle.std.proofs.Common.{◌≡◌, ℕ, List, Option, Some, None, ap, sym, subst, ◌∙◌}
use Rattle.std.specs.Option.{IfSome}
use Rattle.xd_syntax.specs.FunctionRow.{FunctionRow}
use Rattle.xd_syntax.specs.Kept.{ProgramTable, ProgramStands, program_tree}
use Rattle.xd_syntax.specs.RecursionFaults.{IsSound}
use Rattle.xd_eval.specs.Machine.{IsRunnable}
use Rattle.xd_eval.specs.Functions.{row_of}
use Rattle.xd_eval.proofs.Resumed.{body_below}
use Rattle.xd_eval.proofs.resuming.called.Goals as goal

stands : (p : ProgramTable) (w : List ℕ) (o : Option FunctionRow) → o ≡ row_of p.functions w → ProgramStands p → IsSound (program_tree p) → IfSome o (λ (f : FunctionRow). IsRunnable p f.body.at)
stands p w None e s sound = tt
stands p w (Some f) e s sound = body_below p w f s sound (sym e)

pub returns-in-Call-clause-stands : goal.returns-in-Call-clause-stands
returns-in-Call-clause-stands c =
    let p = c.args.program.sound.now in
    stands p c.in-Call.name _
    (c.find.ensures ∙ ap (λ fs. row_of fs c.in-Call.name) (c.functions-functions.ensures.functions ∙ ap (λ (q : ProgramTable). q.functions) c.program.ensures.program))
    (subst ProgramStands c.program.ensures.program c.functions-functions.ensures.stands) c.program.ensures.sound
