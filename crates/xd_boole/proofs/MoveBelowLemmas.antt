-- The moves of a closed automaton lead to its states.
use Rattle.std.proofs.Common.{ℕ, zero, suc, ◌<◌, ◌≡◌, false, List, [], ◌∷◌, length, sym, subst, arith}
use Rattle.std.specs.List.{AllByRecursion, All}
use Rattle.xd_auto.specs.declared.auto.State.{State}
use Rattle.xd_auto.specs.declared.auto.LabelMove.{LabelMove}
use Rattle.xd_auto.specs.declared.auto.TextMove.{TextMove}
use Rattle.xd_auto.specs.Automaton.{Automaton, IsClosed, LeadsBelow, moves_at, no_moves}
use Rattle.xd_boole.specs.Points.{MoveBelow, TextBelow, state_at}

pub all_recursion : {X : Type 0} (P : X → Type 0) (xs : List X) → All P xs → AllByRecursion P xs
all_recursion P [] h = tt
all_recursion P (x ∷ xs) h = (h zero x (omega arith), all_recursion P xs (λ k d lt. h (suc k) d (omega arith)))

pub labels_below : (a : Automaton) (n i : ℕ) → IsClosed a → length a ≡ n → i < n → AllByRecursion (MoveBelow n) (moves_at a (state_at i)).labels
labels_below a n i closed e lt =
    subst (λ (k : ℕ). AllByRecursion (MoveBelow k) (moves_at a (state_at i)).labels) e
    (all_recursion (MoveBelow (length a)) (moves_at a (state_at i)).labels (closed i (no_moves false) (omega (arith, e))).labels)

pub texts_below : (a : Automaton) (n i : ℕ) → IsClosed a → length a ≡ n → i < n → AllByRecursion (TextBelow n) (moves_at a (state_at i)).texts
texts_below a n i closed e lt =
    subst (λ (k : ℕ). AllByRecursion (TextBelow k) (moves_at a (state_at i)).texts) e
    (all_recursion (TextBelow (length a)) (moves_at a (state_at i)).texts (closed i (no_moves false) (omega (arith, e))).texts)

pub labels_are : (a : Automaton) (s : State) (items : List LabelMove) → items ≡ (moves_at a s).labels → LeadsBelow (length a) (moves_at a s) → AllByRecursion (MoveBelow (length a)) items
labels_are a s items e closed = subst (AllByRecursion (MoveBelow (length a))) (sym e) (all_recursion (MoveBelow (length a)) (moves_at a s).labels closed.labels)

pub texts_are : (a : Automaton) (s : State) (items : List TextMove) → items ≡ (moves_at a s).texts → LeadsBelow (length a) (moves_at a s) → AllByRecursion (TextBelow (length a)) items
texts_are a s items e closed = subst (AllByRecursion (TextBelow (length a))) (sym e) (all_recursion (TextBelow (length a)) (moves_at a s).texts closed.texts)
