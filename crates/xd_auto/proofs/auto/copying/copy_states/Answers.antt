use Rattle.xd_auto.specs.Copying.{IsStateCopy, copies_in}
use Rattle.xd_auto.proofs.Copies.{zip_more}
use Rattle.xd_auto.proofs.auto.copying.copy_states.Goals as goal

pub loop-state-preserved : goal.loop-state-preserved
loop-state-preserved c =
    rw c.in_ok-push.ensures.items
    (zip_more (IsStateCopy c.args.auto.now (copies_in c.args.contents.now) (copies_in c.args.rests.now) c.args.tail) c.args.order.now c.loop-state.made.items c.loop-state.state-index
    (record { number = 0 }) c.in_ok-copy.copy c.loop-state-test.true c.loop-state.invariant c.in_ok-copy.ensures)
