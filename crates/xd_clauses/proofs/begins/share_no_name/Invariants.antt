use Rattle.std.proofs.Common.{take}
use Rattle.xd_auto.specs.Automaton.{moves_at}
use Rattle.xd_clauses.specs.Begins.{ShareNoName}
use Rattle.xd_clauses.proofs.begins.share_no_name.Given as goal

abbrev pub invariant-loop-step : goal.invariant-loop-step
invariant-loop-step g l = ShareNoName g.M.Move.has (take l.step-index l.moves) (g.M.Move.moves_in (moves_at l.auto' l.state))
