use Rattle.std.proofs.Common.{◌≡◌, length}
use Rattle.xd_auto.specs.Automaton.{moves_at}
use Rattle.xd_patterns.specs.Held.{marking_of, variables_in}
use Rattle.xd_patterns.specs.Variables.{words_of}
use Rattle.xd_match.specs.Tails.{AreEven}
use Rattle.xd_match.proofs.tails.has_even_moves.Given as goal

abbrev pub invariant-loop-number : goal.invariant-loop-number
invariant-loop-number g l =
    let moves = g.M.Move.moves_in (moves_at l.auto' l.state) in
    record {
      end_is : l.number-end ≡ length moves;
      even : AreEven g.M.Leads.ends_of g.M.Leads.KIND l.auto' (marking_of l.marked) (words_of (variables_in l.marked) l.own) l.state moves l.number;
    }
