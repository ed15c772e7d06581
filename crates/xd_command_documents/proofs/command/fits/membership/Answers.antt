use Rattle.std.proofs.Common.{cond, ap, sym, ◌∙◌}
use Rattle.std.proofs.lemmas.Result.{IfOk-weaker}
use Rattle.xd_command_steps.specs.Output.{yes, no}
use Rattle.xd_command_documents.proofs.command.fits.membership.Goals as goal

pub returns-then-branch : goal.returns-then-branch
returns-then-branch c = IfOk-weaker c.yes.result _ _ (λ o e. e ∙ ap (λ b. cond b yes no) (sym c.if-branch.true ∙ c.in_ok-accepts.ensures)) c.yes.ensures

pub returns-else-branch : goal.returns-else-branch
returns-else-branch c = IfOk-weaker c.no.result _ _ (λ o e. e ∙ ap (λ b. cond b yes no) (sym c.if-branch.false ∙ c.in_ok-accepts.ensures)) c.no.ensures
