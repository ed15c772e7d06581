use Rattle.std.proofs.Common.{List, ℕ, Vec, Global, inl, inr, subst}
use Rattle.xd_base.specs.Outside.{HasRisen}
use Rattle.xd_command_steps.specs.Texts.{EndsAtText, IsText, document_limit}
use Rattle.xd_stream.specs.StopByState.{IsAccepted}
use Rattle.xd_command_documents.specs.StreamByState.{StreamsByState}
use Rattle.xd_command_documents.specs.Stream.{TellsStop}
use Rattle.xd_command_documents.proofs.Steps.{ends-returned}
use Rattle.xd_command_documents.proofs.command.stream.stream_file.Goals as goal

pub returns-in_err-bytes : goal.returns-in_err-bytes
returns-in_err-bytes g c =
    let holds = g.H.Shelf.holds c.args.shelf.now in
    let rose = HasRisen (g.H.Shelf.faults c.args.shelf.now) (g.H.Shelf.faults c.load_bytes.new.shelf) in
    let ends = EndsAtText holds rose c.args.document.now document_limit in
    let answers = StreamsByState c.args.auto c.args.state holds rose c.args.document.now in
    let finds : Vec ℕ Global → Type 0 = λ bytes. IsText holds c.args.document.now document_limit bytes.items in
    ends-returned ends answers finds answers c.in_err-bytes.field-0.0 c.from_residual.result c.from_residual.ensures.1 (λ o e. inl e) c.in_err-bytes.ensures.step

pub returns : goal.returns
returns g c = inr (c.in_ok-bytes.bytes.items, c.in_ok-bytes.ensures.step, subst (λ (bytes : List ℕ). TellsStop (IsAccepted c.args.auto c.args.state) bytes c.in_ok-stop_of.field-0) c.deref.ensures.value c.in_ok-stop_of.ensures)
