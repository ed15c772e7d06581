use Rattle.std.proofs.Common.{inr, inl}
use Rattle.xd_base.specs.Outside.{HasRisen}
use Rattle.xd_syntax.specs.Kept.{program_tree, ProgramTable}
use Rattle.xd_command_documents.specs.Fits.{AnswersFits}
use Rattle.xd_command_steps.specs.Output.{Output}
use Rattle.xd_command_documents.proofs.Steps.{does-map, fits_later, ends-returned}
use Rattle.xd_command_steps.specs.Programs.{AnswersOn, EndsAtProgram, IsProgram}
use Rattle.xd_command_documents.proofs.command.fits.fits.Goals as goal

pub returns : goal.returns
returns g c =
    let P = program_tree c.in_ok-sound.sound in
    let from = g.H.Shelf.faults c.args.shelf.now in
    let till = g.H.Shelf.faults c.fits_program.new.shelf in
    let later = AnswersFits (g.H.Shelf.holds c.load_program.new.shelf) (HasRisen (g.H.Shelf.faults c.load_program.new.shelf) till) c.args.name.now c.args.document.now P in
    let answers = AnswersOn (g.H.Shelf.holds c.args.shelf.now) (HasRisen from till) c.args.file.now (AnswersFits (g.H.Shelf.holds c.args.shelf.now) (HasRisen from till) c.args.name.now c.args.document.now) in
    let step : (o : Output) → later o → answers o = λ o a. inr (P, c.in_ok-sound.ensures.step, fits_later from (g.H.Shelf.faults c.load_program.new.shelf) till c.args.name.now c.args.document.now P o c.load_program.ensures.never_falls c.load_program.ensures.same a) in
    does-map later answers later answers c.fits_program.result step step c.fits_program.ensures

pub returns-in_err-sound : goal.returns-in_err-sound
returns-in_err-sound g c =
    let holds = g.H.Shelf.holds c.args.shelf.now in
    let rose = HasRisen (g.H.Shelf.faults c.args.shelf.now) (g.H.Shelf.faults c.load_program.new.shelf) in
    let ends = EndsAtProgram holds rose c.args.file.now in
    let answers = AnswersOn holds rose c.args.file.now (AnswersFits holds rose c.args.name.now c.args.document.now) in
    let finds : ProgramTable → Type 0 = λ p. IsProgram holds c.args.file.now (program_tree p) in
    ends-returned ends answers finds answers c.in_err-sound.field-0.0 c.from_residual.result c.from_residual.ensures.1 (λ o e. inl e) c.in_err-sound.ensures.step
