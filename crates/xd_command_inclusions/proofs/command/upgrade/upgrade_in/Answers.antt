use Rattle.std.proofs.Common.{inl, inr}
use Rattle.xd_base.specs.Outside.{HasRisen}
use Rattle.xd_syntax.specs.Kept.{program_tree}
use Rattle.xd_proof.proofs.GoalLemmas.{goals_belong}
use Rattle.xd_command_steps.specs.Proofs.{EndsAtProof}
use Rattle.xd_command_steps.specs.Reading.{IsReadFrom}
use Rattle.xd_command_inclusions.specs.Verify.{AnswersUpgrade}
use Rattle.xd_command_documents.proofs.Steps.{ends-returned}
use Rattle.xd_command_inclusions.proofs.command.upgrade.upgrade_in.Goals as goal

pub returns-in_err-proof : goal.returns-in_err-proof
returns-in_err-proof g c =
    let P = program_tree c.args.sound.now in
    let holds = g.H.Shelf.holds c.args.shelf.now in
    let rose = HasRisen (g.H.Shelf.faults c.args.shelf.now) (g.H.Shelf.faults c.load_proof.new.shelf) in
    let ends = EndsAtProof holds rose c.args.proof.now P in
    let answers = AnswersUpgrade holds rose c.args.proof.now P in
    ends-returned ends answers (IsReadFrom holds c.args.proof.now P c.load_proof.new.sound.types) answers c.in_err-proof.field-0.0 c.from_residual.result c.from_residual.ensures.1 (λ o e. inl e) c.in_err-proof.ensures.step

pub proof-requires : goal.proof-requires
proof-requires g c = let h = c.in_ok-proof.ensures.step in goals_belong c.load_proof.new.sound.types c.in_ok-proof.proof h.2.0 h.2.2

pub returns : goal.returns
returns g c = let h = c.in_ok-proof.ensures.step in inr (h.2.0, (h.0, h.1, h.2.1), c.in_ok-proof-2.ensures h.2.0 h.2.2)
