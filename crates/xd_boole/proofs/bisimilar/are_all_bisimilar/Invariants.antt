use Rattle.std.proofs.Common.{◌<◌}
use Rattle.xd_auto.specs.Automaton.{state_number}
use Rattle.xd_auto.specs.declared.auto.State.{State}
use Rattle.xd_boole.specs.Merging.{AreBisimilar}
use Rattle.xd_boole.proofs.BisimilarLemmas.{as_compared}
use Rattle.xd_boole.proofs.bisimilar.are_all_bisimilar.Given as goal

abbrev pub invariant-loop-number : goal.invariant-loop-number
invariant-loop-number l = (s : State) → state_number s < l.number → AreBisimilar l.auto' l.same (as_compared l.same s)
