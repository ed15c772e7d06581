use Rattle.std.proofs.Common.{◌≡◌, Bool, List, ℕ, true, take, drop}
use Rattle.std.specs.List.{AllByRecursion, list_any}
use Rattle.xd_auto.specs.Automaton.{IsState, moves_at}
use Rattle.xd_boole.specs.Matching.{AreMovesIn, any_has}
use Rattle.xd_boole.proofs.matching.moves_of.Given as goal

abbrev pub invariant-loop-state : goal.invariant-loop-state
invariant-loop-state g l = record {
  taken : (x : List ℕ) → g.M.Move.has l.step x ≡ true → (t : g.row.M.Denot → Bool)
      → any_has g.M.Move.has x t l.made.items ≡ list_any (λ s. any_has g.M.Move.has x t (g.M.Move.moves_in (moves_at l.auto' s))) (take l.state-index l.states);
  inside : AreMovesIn g.M.Move.moves_in l.auto' l.made.items;
  left : AllByRecursion (IsState l.auto') (drop l.state-index l.states);
}
