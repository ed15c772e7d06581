use Rattle.std.proofs.Common.{◌≡◌, Option, subst, sym, ◌∙◌}
use Rattle.xd_auto.specs.Automaton.{Automaton}
use Rattle.xd_auto.specs.declared.auto.State.{State}
use Rattle.xd_syntax.specs.CheckFaults.{IsAccepted}
use Rattle.xd_syntax.specs.Kept.{ProgramTable, program_tree}
use Rattle.xd_command_programs.specs.Run.{EndsAtLines}
use Rattle.xd_command_programs.specs.Running.{IsInputTest}
use Rattle.xd_command_programs.specs.Sample.{AnswersSample}
use Rattle.xd_command_documents.proofs.Steps.{ends-returned}
use Rattle.xd_command_programs.proofs.Telephones.{no_line, some_input}
use Rattle.xd_command_programs.proofs.command.sample.sample_program.Goals as goal

pub returns-in_err-test : goal.returns-in_err-test
returns-in_err-test c =
    let P = program_tree c.args.sound in
    let answers = AnswersSample c.args.persons in
    let accepted : Option (Automaton × State) × ProgramTable → Type 0 = λ made. (program_tree made.1 ≡ P) × IsAccepted P × IsInputTest P made.0 in
    ends-returned (EndsAtLines P) answers accepted answers c.in_err-test.field-0.0 c.from_residual.result c.from_residual.ensures.1
    (λ o h. absurd (no_line c.nothing_is_reported.ensures P c.requires.program o h)) c.in_err-test.ensures

pub unreachable-requires : goal.unreachable-requires
unreachable-requires c =
    let P = program_tree c.args.sound in
    let h = c.in_ok-test.ensures in
    some_input P c.requires.program (subst (IsInputTest P) c.in-None.is h.2)

pub sample_on-requires-clause-program : goal.sample_on-requires-clause-program
sample_on-requires-clause-program c = c.in_ok-test.ensures.0 ∙ c.requires.program

pub sample_on-requires-clause-test : goal.sample_on-requires-clause-test
sample_on-requires-clause-test c =
    let h = c.in_ok-test.ensures in
    subst (IsInputTest (program_tree c.in_ok-test.checked)) c.in-Some.is (subst (λ Q. IsInputTest Q c.in_ok-test.test) (sym h.0) h.2)
