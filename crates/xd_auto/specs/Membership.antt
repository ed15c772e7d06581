-- The room of a scratch; and how it is found out whether a state accepts a document: pairs of a
-- node and a state, the answers that are known, and a stack of pairs that wait. Of all but the room
use Rattle.std.specs.Prelude.{◌≡◌, ℕ, ◌+◌, ◌-◌, ◌*◌, ◌<◌, ◌≤◌, ◌⊎◌, Bool, false, is_some, List, [], ◌∷◌, length, take, slice_index_or, Option, Some, None}
use Rattle.std.specs.List.{AllPairs, list_any}
use Rattle.xd_doc.specs.Document.{Document, empty, text, element}
use Rattle.xd_auto.specs.declared.auto.State.{State}
use Rattle.xd_auto.specs.declared.membership.Frame.{Frame}
use Rattle.xd_auto.specs.declared.membership.Answer.{Answer}
use Rattle.xd_auto.specs.declared.membership.Answer.TheVariants.{Settled, Unasked}
use Rattle.xd_auto.specs.declared.membership.Progress.{Progress}
use Rattle.xd_auto.specs.declared.membership.Progress.TheVariants.{Done, Waits}
use Rattle.xd_auto.specs.Automaton.{Automaton, IsState, accepts, moves_at, takes_element, takes_word}
use Rattle.xd_auto.specs.Counts.{left_out_of}
use Rattle.xd_auto.specs.Kept.{Answers, AreRight, kept_at}

-- the document that begins at a node
abbrev pub from_node : List Document → ℕ → Document
from_node ds node = slice_index_or ds node empty

-- an older node and a state whose answer is not known yet
pub record MayWait (a : Automaton) (rows : Answers) (k p : ℕ) (t : State) : Type 0 where
  pub older : p < k
  pub state : IsState a t
  pub unasked : kept_at rows p t.number ≡ None

-- the answer is this one, or waits for a pair
abbrev pub AnswersFor : Bool → (ℕ → State → Type 0) → Answer → Type 0
AnswersFor value Wait (Settled answer) = answer ≡ value
AnswersFor value Wait (Unasked p t) = Wait p t

-- whether some move passes the test, or the first move from this one on that waits, when all before
-- it fail
abbrev pub ProgressOver : {X : Type 0} → (X → Bool) → List X → ℕ → (ℕ → State → Type 0) → Progress → Type 0
ProgressOver test moves tried Wait (Done answer) = answer ≡ list_any test moves
ProgressOver test moves tried Wait (Waits n p t) = (tried ≤ n) × (n < length moves) × (list_any test (take n moves) ≡ false) × Wait p t

-- the same over the moves of a state at a document
abbrev pub ProgressAt : Automaton → Document → State → ℕ → (ℕ → State → Type 0) → Progress → Type 0
ProgressAt a empty s tried Wait (Done answer) = answer ≡ (moves_at a s).last
ProgressAt a empty s tried Wait (Waits n p t) = ⊥
ProgressAt a (text t rest) s tried Wait progress = ProgressOver (takes_word a t rest) (moves_at a s).texts tried Wait progress
ProgressAt a (element l content rest) s tried Wait progress = ProgressOver (takes_element a l content rest) (moves_at a s).labels tried Wait progress

-- the first moves of the state, so many, fail at the document
abbrev pub FailsBefore : Automaton → Document → State → ℕ → Type 0
FailsBefore a empty s n = n ≡ 0
FailsBefore a (text t rest) s n = (n ≤ length (moves_at a s).texts) × (list_any (takes_word a t rest) (take n (moves_at a s).texts) ≡ false)
FailsBefore a (element l content rest) s n =
    (n ≤ length (moves_at a s).labels) × (list_any (takes_element a l content rest) (take n (moves_at a s).labels) ≡ false)

-- a frame at a place of the stack: its node is so many below the top one, its answer is not known,
-- and the moves that it tried fail
pub record IsFrame (a : Automaton) (ds : List Document) (rows : Answers) (top i : ℕ) (f : Frame) : Type 0 where
  pub high : f.node + i ≤ top
  pub state : IsState a f.state
  pub unknown : kept_at rows f.node f.state.number ≡ None
  pub fails : FailsBefore a (from_node ds f.node) f.state f.tried

-- the pair that the lowest frame is for
abbrev pub bottom : List Frame → Option (ℕ × State)
bottom [] = None
bottom (f ∷ fs) = Some (f.node, f.state)

-- what holds at each step: what is known is right, frames are right, their nodes fall, and the pair
-- that was asked first waits or is known
pub record Walk (a : Automaton) (ds : List Document) (top : ℕ) (s : State) (rows : Answers) (stack : List Frame) : Type 0 where
  pub right : AreRight a ds rows
  pub frames : (i : ℕ) (d : Frame) → i < length stack → IsFrame a ds rows top i (slice_index_or stack i d)
  pub falls : AllPairs (λ (f : Frame) (g : Frame). g.node < f.node) stack
  pub root : (bottom stack ≡ Some (top, s)) ⊎ ((stack ≡ []) × (kept_at rows top s.number ≡ Some (accepts a (from_node ds top) s)))

-- how many answers to the first nodes and states are not known
abbrev pub unknown_below : Answers → ℕ → ℕ → ℕ
unknown_below rows states nodes = left_out_of (λ s p. is_some (kept_at rows p s)) states nodes

-- a bound on the steps that are left: each settles a pair, or makes the stack higher
abbrev pub steps_left : Automaton → ℕ → Answers → List Frame → ℕ
steps_left a top rows stack = (top + 2) * unknown_below rows (length a) (top + 1) + (top + 1 - length stack)

-- the states and the nodes that a scratch has room for
pub record Room : Type 0 where
  pub states : ℕ
  pub nodes : ℕ
