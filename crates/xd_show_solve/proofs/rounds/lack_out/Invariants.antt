use Rattle.std.proofs.Common.{take}
use Rattle.xd_show_solve.specs.Rounds.{LackOut}
use Rattle.xd_show_solve.proofs.rounds.lack_out.Given as goal

abbrev pub invariant-loop-term : goal.invariant-loop-term
invariant-loop-term l = LackOut l.owns (take l.term-index l.terms)
