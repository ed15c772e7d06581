-- One type that is written for every state.
use Rattle.std.proofs.Common.{◌≡◌, ◌<◌, ℕ, zero, suc, List, [], ◌∷◌, length, get_or, Option, Some, None, arith, ap, sym, subst, ◌∙◌}
use Rattle.std.specs.List.{All, AllByRecursion}
use Rattle.xd_auto.specs.Automaton.{Automaton, IsClosed, IsState, moves_at, state_number}
use Rattle.xd_auto.specs.declared.auto.LabelMove.{LabelMove}
use Rattle.xd_auto.specs.declared.auto.State.{State}
use Rattle.xd_auto.proofs.Closed.{moves_at-closed}
use Rattle.xd_show_solve.specs.Levels.{AreWritten, IsWritten, WrittenBelong, known_of}
use Rattle.xd_syntax.specs.Table.{Row}
use Rattle.xd_syntax.specs.declared.types.TypeId.{TypeId}
use Rattle.xd_calls_parts.specs.Written.{IsWrittenForAll}

-- what stands at a place below the length
at_place : (id : TypeId) (written : List (Option TypeId)) (i : ℕ) → AllByRecursion (λ (o : Option TypeId). o ≡ Some id) written → i < length written → get_or written i None ≡ Some id
at_place id [] i h lt = absurd (omega arith)
at_place id (o ∷ written) zero h lt = h.0
at_place id (o ∷ written) (suc i) h lt = at_place id written i h.1 (omega arith)

-- nothing else stands there
only : (id other : TypeId) (written : List (Option TypeId)) (i : ℕ) → AllByRecursion (λ (o : Option TypeId). o ≡ Some id) written → get_or written i None ≡ Some other → id ≡ other
only id other [] i h e = absurd (cc)
only id other (o ∷ written) zero h e = let same : o ≡ Some id = h.0 in cc
only id other (o ∷ written) (suc i) h e = only id other written i h.1 e

module _ (n : ℕ) (id : TypeId) (written : List (Option TypeId)) (w : IsWrittenForAll n id written) where
  for_state : (s : State) → state_number s < n → IsWritten written s
  for_state s lt = (let c = w.count in (id, at_place id written (state_number s) w.each (omega arith)))

  for_moves : (ms : List LabelMove) → All (λ m. (state_number m.content < n) × (state_number m.rest < n)) ms → AllByRecursion (λ (m : LabelMove). IsWritten written m.content) ms
  for_moves [] h = tt
  for_moves (m ∷ ms) h = (for_state m.content (h zero m (omega arith)).0, for_moves ms (λ i d lt. h (suc i) d (omega arith)))

  pub written_belong : (types : List Row) → id.at < length types → WrittenBelong types written
  written_belong types lt s other e = let same : id ≡ other = only id other written (state_number s) w.each e in subst (λ (x : TypeId). x.at < length types) same lt

state_at : (a : Automaton) (states : List State) (i : ℕ) (s : State) → AllByRecursion (IsState a) states → i < length states → s ≡ get_or states i s → IsState a s
state_at a [] i s h lt e = absurd (omega arith)
state_at a (t ∷ states) zero s h lt e = subst (IsState a) (sym e) h.0
state_at a (t ∷ states) (suc i) s h lt e = state_at a states i s h.1 (omega arith) e

pub all_written : (a : Automaton) (id : TypeId) (written : List (Option TypeId)) (states : List State) → IsClosed a → AllByRecursion (IsState a) states → IsWrittenForAll (length a) id written → AreWritten a written states
all_written a id written states closed belong w i s lt e =
    for_moves (length a) id written w (moves_at a s).labels (moves_at-closed a s closed (state_at a states i s belong lt e)).labels
