use Rattle.std.proofs.Common.{◌≡◌, Option, inl, inr, subst, sym}
use Rattle.xd_auto.specs.Automaton.{Automaton}
use Rattle.xd_auto.specs.declared.auto.State.{State}
use Rattle.xd_base.specs.Outside.{HasRisen}
use Rattle.xd_command_steps.specs.Output.{Output}
use Rattle.xd_command_steps.specs.DoneSteps.{DoesAll}
use Rattle.xd_syntax.specs.CheckFaults.{IsAccepted}
use Rattle.xd_syntax.specs.Kept.{ProgramTable, program_tree}
use Rattle.xd_syntax.specs.Program.{ProgramTree}
use Rattle.xd_command_programs.specs.Run.{AnswersMain, AnswersRun, EndsAtLines, input_type}
use Rattle.xd_command_programs.specs.Running.{IsInputTest}
use Rattle.xd_command_documents.proofs.Steps.{does-map, ends-returned}
use Rattle.xd_command_programs.proofs.command.run.run_program.Goals as goal

pub run_accepted-requires-clause-test : goal.run_accepted-requires-clause-test
run_accepted-requires-clause-test g c = let h = c.in_ok-test.ensures in subst (λ Q. IsInputTest Q c.in_ok-test.test) (sym h.0) h.2

pub returns : goal.returns
returns g c =
    let P = program_tree c.args.sound in
    let holds = g.H.Shelf.holds c.args.shelf.now in
    let rose = HasRisen (g.H.Shelf.faults c.args.shelf.now) (g.H.Shelf.faults c.run_accepted.new.shelf) in
    let main : ProgramTree → Output → Type 0 = λ Q. AnswersMain holds rose c.args.document.now c.args.fuel Q (input_type Q) in
    let answers = AnswersRun holds rose c.args.document.now c.args.fuel P in
    let h = c.in_ok-test.ensures in
    let step : (o : Output) → main P o → answers o = λ o a. inr (h.1, a) in
    does-map (main P) answers (main P) answers c.run_accepted.result step step (subst (λ Q. DoesAll c.run_accepted.result (main Q)) h.0 c.run_accepted.ensures)

pub returns-in_err-test : goal.returns-in_err-test
returns-in_err-test g c =
    let P = program_tree c.args.sound in
    let answers = AnswersRun (g.H.Shelf.holds c.args.shelf.now) (HasRisen (g.H.Shelf.faults c.args.shelf.now) (g.H.Shelf.faults c.args.shelf.now)) c.args.document.now c.args.fuel P in
    let accepted : Option (Automaton × State) × ProgramTable → Type 0 = λ made. (program_tree made.1 ≡ P) × IsAccepted P × IsInputTest P made.0 in
    ends-returned (EndsAtLines P) answers accepted answers c.in_err-test.field-0.0 c.from_residual.result c.from_residual.ensures.1 (λ o e. inl e) c.in_err-test.ensures
