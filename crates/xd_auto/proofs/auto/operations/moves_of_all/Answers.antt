use Rattle.std.proofs.Common.{◌≡◌, ◌||◌, get_or, ap, ◌∙◌}
use Rattle.xd_auto.specs.declared.auto.State.{State}
use Rattle.xd_auto.specs.Automaton.{StateMoves, moves_at}
use Rattle.xd_auto.proofs.AddsMovesLemmas.{united_none, united_more}
use Rattle.xd_auto.proofs.auto.operations.moves_of_all.Goals as goal

pub loop-state-init : goal.loop-state-init
loop-state-init c = rw c.new-made.ensures (united_none c.args.auto.now)

pub loop-state-preserved : goal.loop-state-preserved
loop-state-preserved c =
    let s : State = get_or c.args.states.now c.loop-state.state-index (record { number = 0 }) in
    let front : c.set_last.new.self ≡ record c.loop-state.made { last = c.loop-state.made.last || (moves_at c.args.auto.now s).last } =
    c.set_last.ensures ∙ rw c.is_last.ensures (ap (λ (m : StateMoves). record c.loop-state.made { last = m.last || (moves_at c.args.auto.now s).last }) c.made.view_is) in
    united_more c.args.auto.now c.args.states.now c.loop-state.state-index (record { number = 0 }) c.loop-state.made c.add_moves.new.into c.loop-state-test.true (c.requires c.loop-state.state-index (record { number = 0 }) c.loop-state-test.true) c.loop-state.invariant
    (rw (c.without_copies-none.ensures, front) at c.in_ok-add_moves.ensures.ok)
