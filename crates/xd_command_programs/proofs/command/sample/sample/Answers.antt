use Rattle.std.proofs.Common.{◌≡◌, subst}
use Rattle.xd_syntax.specs.Kept.{ProgramTable, program_tree}
use Rattle.xd_parse_trees.specs.Means.{IsProgramText}
use Rattle.xd_command_sample.specs.Telephones.{telephone_text}
use Rattle.xd_command_steps.specs.Programs.{EndsAtFaults, IsSoundText}
use Rattle.xd_command_programs.specs.Sample.{AnswersSample}
use Rattle.xd_command_documents.proofs.Steps.{ends-returned}
use Rattle.xd_command_programs.proofs.Telephones.{no_fault}
use Rattle.xd_command_programs.proofs.command.sample.sample.Goals as goal

pub returns-in_err-sound : goal.returns-in_err-sound
returns-in_err-sound c =
    let text : c.as_bytes.result.now ≡ telephone_text = c.as_bytes.ensures.value in
    let answers = AnswersSample c.args.persons in
    let sound : ProgramTable → Type 0 = λ p. IsSoundText c.as_bytes.result.now (program_tree p) in
    ends-returned (EndsAtFaults c.as_bytes.result.now) answers sound answers c.in_err-sound.field-0.0 c.from_residual.result c.from_residual.ensures.1
    (λ o h. absurd (no_fault c.text_is_read.ensures o (subst (λ bytes. EndsAtFaults bytes o) text h))) c.in_err-sound.ensures.step

pub sample_program-requires-clause-program : goal.sample_program-requires-clause-program
sample_program-requires-clause-program c =
    let P = program_tree c.in_ok-sound.sound in
    let text : c.as_bytes.result.now ≡ telephone_text = c.as_bytes.ensures.value in
    c.text_is_read.ensures.only P (subst (λ bytes. IsProgramText bytes P) text c.in_ok-sound.ensures.step.spelled)
