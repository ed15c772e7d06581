use Rattle.xd_auto.specs.Automaton.{moves_at}
use Rattle.xd_empty.specs.Parts.{is_marked}
use Rattle.xd_bind.specs.Owning.{is_owned}
use Rattle.xd_bind.specs.Search.{IsVisiting}
use Rattle.xd_bind.proofs.ahead.Search.visit_moves.Given as goal

abbrev pub invariant-loop-number : goal.invariant-loop-number
invariant-loop-number g l =
    IsVisiting g.M.Leads.Filled g.M.Leads.ends_of (is_owned (g.H.Holds.owned l.owner l.variable) g.M.Leads.KIND l.state) (is_marked l.free) (g.M.Move.moves_in (moves_at l.auto' l.state))
    l.initial.self.order.items l.initial.self.marks.items l.self.order.items l.self.marks.items l.number
