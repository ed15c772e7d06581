use Rattle.xd_base.specs.Outside.{HasRisen}
use Rattle.xd_doc.specs.Stored.{document_at}
use Rattle.xd_doc.specs.declared.store.Seq.{Seq}
use Rattle.xd_command_steps.specs.Documents.{EndsAtDocument, IsDocument}
use Rattle.xd_syntax.specs.Kept.{program_tree}
use Rattle.xd_command_programs.specs.Run.{AnswersMain, input_type}
use Rattle.xd_command_programs.proofs.RunLemmas.{ends_at, has_type, main_does}
use Rattle.xd_command_documents.proofs.Steps.{ends-returned}
use Rattle.xd_command_programs.proofs.command.run.run_main.Goals as goal

pub returns : goal.returns
returns g c =
    main_does (g.H.Shelf.holds c.args.shelf.now) (HasRisen (g.H.Shelf.faults c.args.shelf.now) (g.H.Shelf.faults c.load_document.new.shelf)) c.args.document.now c.args.fuel (program_tree c.args.checked.now)
    c.args.auto.now c.args.state (document_at c.load_document.new.store c.in_ok-input.input) c.run_on.result c.requires.test c.in_ok-input.ensures.step c.run_on.ensures

pub returns-in_err-input : goal.returns-in_err-input
returns-in_err-input g c =
    let P = program_tree c.args.checked.now in
    let holds = g.H.Shelf.holds c.args.shelf.now in
    let rose = HasRisen (g.H.Shelf.faults c.args.shelf.now) (g.H.Shelf.faults c.load_document.new.shelf) in
    let file = c.args.document.now in
    let T = has_type P c.args.auto.now c.args.state c.requires.test in
    let answers = AnswersMain holds rose file c.args.fuel P (input_type P) in
    let finds : Seq → Type 0 = λ s. IsDocument holds file (document_at c.load_document.new.store s) in
    ends-returned (EndsAtDocument holds rose file) answers finds answers c.in_err-input.field-0.0 c.from_residual.result c.from_residual.ensures.1
    (λ o e. ends_at holds rose file c.args.fuel P (input_type P) o T.0 T.1 e) c.in_err-input.ensures.step
