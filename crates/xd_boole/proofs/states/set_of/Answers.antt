use Rattle.std.proofs.Common.{◌+◌, drop, ap, sym, ◌∙◌}
use Rattle.std.proofs.lemmas.List.{at_drop_more, drop_all}
use Rattle.xd_auto.specs.declared.auto.State.{State}
use Rattle.xd_boole.specs.Meaning.{with_states}
use Rattle.xd_boole.proofs.states.set_of.Goals as goal

pub loop-state-preserved : goal.loop-state-preserved
loop-state-preserved c =
    let states = c.args.states.now in
    let i = c.loop-state.state-index in
    let none : State = record { number = 0 } in
    let made = c.loop-state.made.items in
    c.loop-state.invariant ∙ at_drop_more (λ ys. with_states ys made) states i none c.loop-state-test.true ∙ ap (with_states (drop (i + 1) states)) (sym c.in_ok-put_state.ensures)

pub returns : goal.returns
returns c =
    sym (c.loop-state.invariant ∙ ap (λ ys. with_states ys c.loop-state.made.items) (drop_all c.loop-state.state-index c.args.states.now c.loop-state-test.false))
