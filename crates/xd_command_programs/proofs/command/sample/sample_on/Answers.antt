use Rattle.std.proofs.Common.{◌≡◌, ℕ, ◌+◌, length, ap, ◌∙◌}
use Rattle.xd_doc.specs.Document.{canonical_text}
use Rattle.xd_doc.specs.Stored.{document_at}
use Rattle.xd_doc.specs.declared.store.Seq.{Seq}
use Rattle.xd_syntax.specs.Kept.{program_tree}
use Rattle.xd_command_sample.specs.Persons.{sample_of, telephones_to}
use Rattle.xd_command_steps.specs.Output.{summary}
use Rattle.xd_command_programs.specs.Run.{EndsAtValue, IsValue}
use Rattle.xd_command_programs.specs.Sample.{AnswersSample}
use Rattle.xd_command_documents.proofs.Steps.{ends-returned}
use Rattle.xd_command_programs.proofs.Telephones.{persons_tree, has_input, no_end, made_is}
use Rattle.xd_command_programs.proofs.command.sample.sample_on.Goals as goal

pub returns-in_err-value : goal.returns-in_err-value
returns-in_err-value c =
    let P = program_tree c.args.checked.now in
    let n = c.args.persons in
    let d = document_at c.sample_document.new.store c.in_ok-input.input in
    let same : d ≡ sample_of n = c.in_ok-input.ensures.made in
    let answers = AnswersSample n in
    let made : Seq × ℕ → Type 0 = λ m. IsValue P persons_tree (n + 1) d (document_at c.value_on.new.store m.0, m.1) in
    ends-returned (EndsAtValue P persons_tree (n + 1) d) answers made answers c.in_err-value.field-0.0 c.from_residual-in_err-value.result c.from_residual-in_err-value.ensures.1
    (λ o h. absurd (no_end c.telephones_are_listed.ensures n P d c.requires.program same o h)) (c.in_err-value.ensures.step persons_tree (has_input P c.requires.program))

pub returns : goal.returns
returns c =
    let P = program_tree c.args.checked.now in
    let n = c.args.persons in
    let d = document_at c.sample_document.new.store c.in_ok-input.input in
    let same : d ≡ sample_of n = c.in_ok-input.ensures.made in
    let value = document_at c.value_on.new.store c.in_ok-value.value in
    let found : IsValue P persons_tree (n + 1) d (value, c.in_ok-value.calls) = c.in_ok-value.ensures.step persons_tree (has_input P c.requires.program) in
    let made = made_is c.telephones_are_listed.ensures n P d (value, c.in_ok-value.calls) c.requires.program same found in
    let document : c.in_ok-document.document ≡ length (canonical_text (sample_of n)) = c.in_ok-document.ensures ∙ ap (λ e. length (canonical_text e)) same in
    let written : c.in_ok-written.written ≡ length (canonical_text (telephones_to n)) = c.in_ok-written.ensures ∙ ap (λ e. length (canonical_text e)) made.0 in
    c.in_ok-summary.ensures ∙ ap (λ k. summary n k c.in_ok-written.written c.in_ok-value.calls) document
    ∙ ap (λ k. summary n (length (canonical_text (sample_of n))) k c.in_ok-value.calls) written
    ∙ ap (summary n (length (canonical_text (sample_of n))) (length (canonical_text (telephones_to n)))) made.1
