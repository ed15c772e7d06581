use Rattle.std.proofs.Common.{inl}
use Rattle.xd_base.specs.Outside.{HasRisen}
use Rattle.xd_syntax.specs.Kept.{ProgramTable, program_tree}
use Rattle.xd_command_steps.specs.Programs.{AnswersOn, EndsAtProgram, IsProgram}
use Rattle.xd_command_documents.proofs.Steps.{ends-returned}
use Rattle.xd_command_programs.specs.Check.{AnswersCheck}
use Rattle.xd_command_programs.proofs.command.check.check.Goals as goal

pub returns-in_err-sound : goal.returns-in_err-sound
returns-in_err-sound g c =
    let holds = g.H.Shelf.holds c.args.shelf.now in
    let rose = HasRisen (g.H.Shelf.faults c.args.shelf.now) (g.H.Shelf.faults c.load_program.new.shelf) in
    let ends = EndsAtProgram holds rose c.args.file.now in
    let answers = AnswersOn holds rose c.args.file.now AnswersCheck in
    let finds : ProgramTable → Type 0 = λ p. IsProgram holds c.args.file.now (program_tree p) in
    ends-returned ends answers finds answers c.in_err-sound.field-0.0 c.from_residual.result c.from_residual.ensures.1 (λ o e. inl e) c.in_err-sound.ensures.step
