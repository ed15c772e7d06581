use Rattle.std.proofs.Common.{Ok, ap, refl, subst, sym}
use Rattle.xd_syntax.specs.CheckFaults.{wrong_argument}
use Rattle.xd_syntax.specs.Expression.{place_of_expression}
use Rattle.xd_check_steps.specs.FoundLines.{AddsLines}
use Rattle.xd_check_steps.specs.States.{IsMisfit}
use Rattle.xd_check_steps.specs.Walkable.{expr_at}
use Rattle.xd_check_steps.proofs.LineLists.{adds_nowhere}
use Rattle.xd_check.specs.Walked.{LinesOfArgument}
use Rattle.xd_check.proofs.checker.Checker.see_argument.Goals as goal

pub returns-in_default-2-clause-lines : goal.returns-in_default-2-clause-lines
returns-in_default-2-clause-lines c =
    let lines = c.args.findings.now.lines.items in
    let place = place_of_expression (expr_at c.args.self.now.sound c.args.argument.at) in
    subst (λ o. AddsLines c.misfit.new.store (LinesOfArgument c.args.auto.now place c.args.state o) lines lines) (sym c.in-Some.is)
    (adds_nowhere c.misfit.new.store place wrong_argument (IsMisfit c.args.auto.now c.args.state c.in-Some.wanted) (λ d h. h.1 (c.in_ok-document.ensures.none (ap (λ o. Ok o) c.in_default-2.is) d h.0)) lines lines refl)
