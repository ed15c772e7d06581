use Rattle.std.proofs.Common.{◌≡◌, ℕ, ◌<◌, true, get_or}
use Rattle.xd_doc.specs.Document.{Document}
use Rattle.xd_auto.specs.declared.auto.State.{State}
use Rattle.xd_auto.specs.Automaton.{accepts}
use Rattle.xd_given.proofs.union.are_within.Given as goal

abbrev pub invariant-loop-state : goal.invariant-loop-state
invariant-loop-state l = (x : ℕ) (s : State) (d : Document) → x < l.state-index → accepts l.auto' d (get_or l.states x s) ≡ true → accepts l.auto' d l.other ≡ true
