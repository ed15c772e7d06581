use Rattle.xd_doc.proofs.Lists.{all_get}
use Rattle.xd_auto.specs.Automaton.{IsState}
use Rattle.xd_goals.proofs.takers.any_takes.Goals as goal

pub next_label_move-requires-in-loop-state-clause-state : goal.next_label_move-requires-in-loop-state-clause-state
next_label_move-requires-in-loop-state-clause-state c = all_get (IsState c.args.auto.now) c.args.states.now c.loop-state.state-index _ c.requires.states c.loop-state-test.true
