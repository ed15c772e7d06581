use Rattle.xd_show_solve.proofs.RoundLaws.{FirstApart}
use Rattle.xd_show_solve.proofs.rounds.are_apart.Given as goal

abbrev pub invariant-loop-number : goal.invariant-loop-number
invariant-loop-number l = FirstApart l.owns l.number
