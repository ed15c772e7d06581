use Rattle.std.proofs.Common.{sym, ◌∙◌}
use Rattle.std.proofs.lemmas.Result.{IfOk-weaker}
use Rattle.xd_show_blocks.specs.AtStates.{Accepted, IsShownBy}
use Rattle.xd_show_blocks.proofs.BlockLemmas.{shown_along}
use Rattle.xd_show_blocks.proofs.blocks.shown_apart.Goals as goal

pub returns : goal.returns
returns c =
    let a = c.args.auto.now in
    let part = c.in_ok-part.part in
    let state = c.in_ok-part.state in
    let same = c.in_ok-part.ensures.ok in
    IfOk-weaker c.shown_state.result (IsShownBy (Accepted part state) c.args.taken.now) (IsShownBy (Accepted a c.args.state) c.args.taken.now)
    (λ k s. shown_along (Accepted part state) (Accepted a c.args.state) c.args.taken.now k (λ d p. (λ e. sym (same d) ∙ e, λ e. same d ∙ e)) s) c.shown_state.ensures
