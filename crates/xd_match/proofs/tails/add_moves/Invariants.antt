use Rattle.std.proofs.Common.{ℕ, ◌≡◌, length}
use Rattle.xd_auto.specs.Automaton.{moves_at}
use Rattle.xd_sound.specs.Graph.{HasEdge}
use Rattle.xd_match.specs.Tails.{AllLead, HasEdgeTo}
use Rattle.xd_match.proofs.tails.add_moves.Given as goal

abbrev pub invariant-loop-step : goal.invariant-loop-step
invariant-loop-step g l = record {
  count : length l.behind ≡ length l.fn.behind;
  kept : (v w : ℕ) → HasEdge l.fn.behind v w → HasEdge l.behind v w;
  added : AllLead g.M.Leads.ends_of (HasEdgeTo l.behind l.state) (g.M.Move.moves_in (moves_at l.auto' l.state)) l.step-index;
}
