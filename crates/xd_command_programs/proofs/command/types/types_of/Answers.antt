use Rattle.std.proofs.Common.{◌≡◌, ap, inl, inr, subst, sym}
use Rattle.xd_show_blocks.specs.Blocks.{AreBlocks}
use Rattle.xd_command_steps.specs.Output.{Output}
use Rattle.xd_syntax.specs.CheckFaults.{IsAccepted}
use Rattle.xd_syntax.specs.Kept.{ProgramTable, program_tree}
use Rattle.xd_variables.specs.Bound.{reading_of}
use Rattle.xd_command_programs.specs.Check.{EndsAtCheck}
use Rattle.xd_command_programs.specs.Types.{AnswersTypes}
use Rattle.xd_command_documents.proofs.Steps.{ends-returned}
use Rattle.xd_command_programs.proofs.command.types.types_of.Goals as goal

pub returns : goal.returns
returns c =
    let same = c.in_ok-checked.ensures in
    let B = reading_of c.args.ways in
    let text = subst (λ P. AreBlocks B P c.in_ok-text.text.items) same c.in_ok-text.ensures in
    inr (
      subst IsAccepted same c.sound-accepted.ensures.accepted,
      ap (λ (o : Output). o.status) c.success.ensures,
      subst (AreBlocks B (program_tree c.args.sound)) (sym (ap (λ (o : Output). o.text) c.success.ensures)) text,
    )

pub returns-in_err-checked : goal.returns-in_err-checked
returns-in_err-checked c =
    let P = program_tree c.args.sound in
    let answers = AnswersTypes (reading_of c.args.ways) P in
    let finds : ProgramTable → Type 0 = λ p. program_tree p ≡ P in
    ends-returned (EndsAtCheck P) answers finds answers c.in_err-checked.field-0.0 c.from_residual.result c.from_residual.ensures.1 (λ o e. inl e) c.in_err-checked.ensures
