use Rattle.std.proofs.Common.{inl}
use Rattle.xd_doc.specs.Stored.{document_at}
use Rattle.xd_doc.specs.declared.store.Seq.{Seq}
use Rattle.std.specs.Prelude.{ℕ}
use Rattle.xd_syntax.specs.Kept.{program_tree}
use Rattle.xd_command_programs.specs.Run.{AnswersInput, EndsAtValue, IsValue}
use Rattle.xd_command_documents.proofs.Steps.{ends-returned}
use Rattle.xd_command_programs.proofs.command.run.run_on.Goals as goal

pub returns-in_err-value : goal.returns-in_err-value
returns-in_err-value c = λ T e.
    let P = program_tree c.args.checked.now in
    let d = document_at c.args.store.now c.args.input in
    let all = AnswersInput P T c.args.fuel d in
    let made : Seq × ℕ → Type 0 = λ m. IsValue P T c.args.fuel d (document_at c.value_on.new.store m.0, m.1) in
    ends-returned (EndsAtValue P T c.args.fuel d) all made all c.in_err-value.field-0.0 c.from_residual.result c.from_residual.ensures.1 (λ o h. inl h) (c.in_err-value.ensures.step T e)
