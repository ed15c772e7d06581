use Rattle.xd_show_solve.proofs.RoundLaws.{LeavesFirst}
use Rattle.xd_show_solve.proofs.rounds.leave.Given as goal

abbrev pub invariant-loop-number : goal.invariant-loop-number
invariant-loop-number l = LeavesFirst l.owns l.number l.fn.alive.items l.alive.items
