-- A state that was given moves has them.
use Rattle.std.proofs.Common.{◌≡◌, false, ap, ◌∙◌}
use Rattle.std.proofs.lemmas.List.{get_or-set_same}
use Rattle.xd_auto.specs.declared.auto.State.{State}
use Rattle.xd_auto.specs.Automaton.{Automaton, IsState, StateMoves, moves_at, no_moves, state_number, with_moves}

pub given_moves : (old new : Automaton) (s : State) (moves : StateMoves) → IsState old s → new ≡ with_moves old s moves → moves_at new s ≡ moves
given_moves old new s moves there is = ap (λ w. moves_at w s) is ∙ get_or-set_same old (state_number s) moves (no_moves false) there
