-- On automata that are equal, and on automata that grow.
use Rattle.std.proofs.Common.{◌≡◌, false, length}
use Rattle.std.proofs.lemmas.List.{ext_get_or}
use Rattle.xd_auto.specs.declared.auto.State.{State}
use Rattle.xd_auto.specs.Automaton.{Automaton, IsState, moves_at, no_moves}

-- automata with as many states, which have the same moves
pub same_automata : (a b : Automaton) → length a ≡ length b → ((s : State) → IsState a s → moves_at a s ≡ moves_at b s) → a ≡ b
same_automata a b e h = ext_get_or (no_moves false) a b e (λ i lt. h (record { number = i }) lt)
