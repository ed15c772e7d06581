-- States from which all that is left of a level belongs to the same variables, and nothing in its
-- contents to any.
use Rattle.std.specs.Prelude.{◌≡◌, ◌⊎◌, ℕ, ◌<◌, Bool, true, false, List, [], ◌∷◌, length, get_or}
use Rattle.std.specs.Option.{IfSome}
use Rattle.xd_doc.specs.Members.{IsOneOf}
use Rattle.xd_auto.specs.declared.auto.State.{State}
use Rattle.xd_auto.specs.declared.auto.LabelMove.{LabelMove}
use Rattle.xd_auto.specs.Automaton.{Automaton, IsState, moves_at, state_number}
use Rattle.xd_auto.specs.Leading.{EndsAre, label_ends, text_ends}
use Rattle.xd_auto.specs.declared.leading.Ends.{Ends}
use Rattle.xd_auto.specs.declared.kind.MoveKind.{MoveKind}
use Rattle.xd_auto.specs.declared.kind.MoveKind.TheVariants.{Label, Text}
use Rattle.xd_sound.specs.Graph.{HasEdge}
use Rattle.xd_sound.specs.Emptiness.{is_marked}
use Rattle.xd_patterns.specs.Marked.{Marking, MoveMarks, marks_at}

-- the state has no move
abbrev pub IsBare : Automaton → State → Type 0
IsBare a s = ((moves_at a s).labels ≡ []) × ((moves_at a s).texts ≡ [])

abbrev pub first_marks : List LabelMove → MoveMarks → List (List ℕ)
first_marks [] m = get_or m.texts 0 []
first_marks (l ∷ ls) m = get_or m.labels 0 []

-- the variables of the state's first move
abbrev pub tail_marks : Automaton → Marking → State → List (List ℕ)
tail_marks a k s = first_marks (moves_at a s).labels (k s)

-- the marks of states, by number, say that the items of what is left of their level may belong to
-- different variables
abbrev pub is_mixed : List Bool → State → Bool
is_mixed mixed s = is_marked mixed (state_number s)

-- the first items from the state on, if there are any, belong to these variables
abbrev pub GoesOnWith : Automaton → Marking → List (List ℕ) → State → Type 0
GoesOnWith a k marks s = IsBare a s ⊎ (tail_marks a k s ≡ marks)

-- the same of the first items after a move, and the first items in it belong to no variable
abbrev pub EndsGoOnWith : Automaton → Marking → List (List ℕ) → Ends → Type 0
EndsGoOnWith a k marks e = GoesOnWith a k marks e.behind × IfSome e.inside (GoesOnWith a k [])

-- the items of the first moves of a kind, so many, belong to these variables, and so it goes on
abbrev pub AreEven : {M : Type 0} → (M → Ends) → MoveKind → Automaton → Marking → List (List ℕ) → State → List M → ℕ → Type 0
AreEven {M} ends kind a k marks s moves count =
    (n : ℕ) (m : M) → n < count → (marks_at (k s) kind n ≡ marks) × EndsGoOnWith a k marks (ends (get_or moves n m))

-- all with the variables of the state's first move
pub record IsEven (a : Automaton) (k : Marking) (s : State) : Type 0 where
  pub texts : AreEven text_ends Text a k (tail_marks a k s) s (moves_at a s).texts (length (moves_at a s).texts)
  pub labels : AreEven label_ends Label a k (tail_marks a k s) s (moves_at a s).labels (length (moves_at a s).labels)

-- what holds of each state that the first moves, so many, lead to
abbrev pub AllLead : {M : Type 0} → (M → Ends) → (State → Type 0) → List M → ℕ → Type 0
AllLead {M} ends R moves count = (n : ℕ) (m : M) → n < count → EndsAre R (ends (get_or moves n m))

-- what holds of each state that the moves of the state lead to
pub record LeadsFrom (a : Automaton) (R : State → Type 0) (s : State) : Type 0 where
  pub texts : AllLead text_ends R (moves_at a s).texts (length (moves_at a s).texts)
  pub labels : AllLead label_ends R (moves_at a s).labels (length (moves_at a s).labels)

-- a state that isn't marked as mixed is even, and its moves lead to such states
pub record AreTails (a : Automaton) (k : Marking) (mixed : List Bool) : Type 0 where
  pub count : length mixed ≡ length a
  pub even : (s : State) → IsState a s → is_mixed mixed s ≡ false → IsEven a k s × LeadsFrom a (λ t. IsState a t × (is_mixed mixed t ≡ false)) s

-- an edge leads to the first state from the other
abbrev pub HasEdgeTo : List (List ℕ) → State → State → Type 0
HasEdgeTo g s t = HasEdge g (state_number t) (state_number s)

-- an edge leads to each state from those that its moves lead to
pub record AreBehind (a : Automaton) (g : List (List ℕ)) : Type 0 where
  pub count : length g ≡ length a
  pub edges : (s : State) → IsState a s → LeadsFrom a (HasEdgeTo g s) s

-- each seed, and each node that an edge leads to from a marked one, is marked or waits
pub record IsSpread (g : List (List ℕ)) (seeds : List ℕ) (mixed : List Bool) (waiting : List ℕ) : Type 0 where
  pub seeded : (i : ℕ) → IsOneOf i seeds → (is_marked mixed i ≡ true) ⊎ IsOneOf i waiting
  pub edges : (v w : ℕ) → HasEdge g v w → is_marked mixed v ≡ true → (is_marked mixed w ≡ true) ⊎ IsOneOf w waiting
  pub within : (i : ℕ) → IsOneOf i waiting → i < length g
