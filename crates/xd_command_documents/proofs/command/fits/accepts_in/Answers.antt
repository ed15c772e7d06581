use Rattle.std.proofs.Common.{inl, inr}
use Rattle.xd_base.specs.Outside.{HasRisen}
use Rattle.xd_doc.specs.Stored.{document_at}
use Rattle.xd_doc.specs.declared.store.Seq.{Seq}
use Rattle.xd_command_steps.specs.Documents.{EndsAtDocument, IsDocument}
use Rattle.xd_command_documents.specs.FitsByState.{AnswersByState}
use Rattle.xd_command_documents.proofs.Steps.{ends-returned}
use Rattle.xd_command_documents.proofs.command.fits.accepts_in.Goals as goal

pub returns-in_err-seq : goal.returns-in_err-seq
returns-in_err-seq g c =
    let holds = g.H.Shelf.holds c.args.shelf.now in
    let rose = HasRisen (g.H.Shelf.faults c.args.shelf.now) (g.H.Shelf.faults c.load_document.new.shelf) in
    let ends = EndsAtDocument holds rose c.args.document.now in
    let answers = AnswersByState c.args.auto.now c.args.state holds rose c.args.document.now in
    let finds : Seq → Type 0 = λ s. IsDocument holds c.args.document.now (document_at c.load_document.new.store s) in
    ends-returned ends answers finds answers c.in_err-seq.field-0.0 c.from_residual.result c.from_residual.ensures.1 (λ o e. inl e) c.in_err-seq.ensures.step

pub returns : goal.returns
returns g c = inr (document_at c.load_document.new.store c.in_ok-seq.seq, c.in_ok-seq.ensures.step, c.in_ok-membership.ensures)
