use Rattle.std.proofs.Common.{inr, sym, subst, ◌∙◌}
use Rattle.xd_doc.specs.Stored.{document_at}
use Rattle.xd_eval.specs.Evaluation.{IsEvaluated}
use Rattle.xd_syntax.specs.Kept.{program_tree}
use Rattle.xd_command_programs.proofs.Inputs.{fits_is_input}
use Rattle.xd_command_programs.proofs.RunLemmas.{has_type, tests}
use Rattle.xd_command_programs.proofs.command.run.value_on.Goals as goal

pub evaluate-requires-clause-input : goal.evaluate-requires-clause-input
evaluate-requires-clause-input c =
    let P = program_tree c.args.checked.now in
    let k = has_type P c.args.auto.now c.args.state c.requires.test in
    let a = tests P k.0 c.args.auto.now c.args.state c.requires.test k.1 in
    fits_is_input c.args.checked.now k.0 _ k.1 ((a.1 _).0 (sym c.in_ok-accepts.ensures ∙ c.if-not-branch.false))

pub returns-in_ok-fuel_spent-in-Spent-clause-step : goal.returns-in_ok-fuel_spent-in-Spent-clause-step
returns-in_ok-fuel_spent-in-Spent-clause-step c = λ T e.
    let P = program_tree c.args.checked.now in
    let d = document_at c.args.store.now c.args.input in
    let acceptor = tests P T c.args.auto.now c.args.state c.requires.test e in
    let spent = subst (IsEvaluated c.args.checked.now d c.args.fuel c.evaluate.new.store) c.in-Spent.is c.in_ok-value.ensures.evaluated in
    inr ((acceptor.1 d).0 (sym c.in_ok-accepts.ensures ∙ c.if-not-branch.false), spent, c.in_ok-fuel_spent-in-Spent.ensures)
