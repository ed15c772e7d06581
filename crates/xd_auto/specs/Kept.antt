-- Answers that are kept: whether states accept the documents that begin at nodes.
use Rattle.std.specs.Prelude.{◌≡◌, ◌≢◌, ℕ, ◌+◌, ◌*◌, ◌<◌, ◌≤◌, ◌⊎◌, Bool, cond, List, [], length, map, slice_index_or, Option, Some, None, Vec, vec_capacity}
use Rattle.xd_doc.specs.Document.{Document}
use Rattle.xd_doc.specs.Stored.{document_at}
use Rattle.xd_doc.specs.StoredSeq.{BelongsTo}
use Rattle.xd_doc.specs.StoreNodes.{Keeps, node_seq}
use Rattle.xd_auto.specs.declared.auto.State.{State}
use Rattle.xd_auto.specs.Automaton.{Automaton, Extends, IsState, KeepsAccepting, accepts}
use Rattle.xd_auto.specs.Marks.{bit_of}

-- of each state a row of words, in which each node has two bits
abbrev pub Answers : Type 0
Answers = List (List ℕ)

-- what a row says of a node: whether an answer is kept, and which
abbrev pub kept_in : List ℕ → ℕ → Option Bool
kept_in words node = cond (bit_of words (2 * node)) (Some (bit_of words (2 * node + 1))) None

-- the answer to a node and the state of this number, where one is kept
abbrev pub kept_at : Answers → ℕ → ℕ → Option Bool
kept_at rows node state = kept_in (slice_index_or rows state []) node

-- the node belongs to the store, the state to the automaton, and the answer is whether the state
-- accepts the document at the node
pub record IsRight (a : Automaton) (ds : List Document) (node : ℕ) (s : State) (answer : Bool) : Type 0 where
  pub belongs : BelongsTo ds (node_seq node)
  pub state : IsState a s
  pub is : answer ≡ accepts a (document_at ds (node_seq node)) s

-- each answer that is kept is right
abbrev pub AreRight : Automaton → List Document → Answers → Type 0
AreRight a ds rows = (node : ℕ) (s : State) (answer : Bool) → kept_at rows node s.number ≡ Some answer → IsRight a ds node s answer

-- each answer that was kept still is
abbrev pub KeepsAnswers : Answers → Answers → Type 0
KeepsAnswers old new = (node state : ℕ) (answer : Bool) → kept_at old node state ≡ Some answer → kept_at new node state ≡ Some answer

-- answers that are right stay right where a store keeps its documents
abbrev pub StayRightForStore : Answers → Type 0
StayRightForStore rows = (a : Automaton) (old new : List Document) → Keeps old new → AreRight a old rows → AreRight a new rows

-- and where an automaton keeps its states and what they accept
abbrev pub StayRightForAutomaton : Answers → Type 0
StayRightForAutomaton rows = (old new : Automaton) (ds : List Document) → Extends old new → KeepsAccepting old new → AreRight old ds rows → AreRight new ds rows

-- no answer changed
abbrev pub SameAnswers : Answers → Answers → Type 0
SameAnswers old new = (node state : ℕ) → kept_at new node state ≡ kept_at old node state

-- this answer is kept now, and of the other pairs each has the one that it had
pub record KeepsAnswer (node state : ℕ) (answer : Bool) (old new : Answers) : Type 0 where
  pub there : kept_at new node state ≡ Some answer
  pub others : (p s : ℕ) → (p ≢ node) ⊎ (s ≢ state) → kept_at new p s ≡ kept_at old p s

-- the same of one row
pub record KeepsInRow (node : ℕ) (answer : Bool) (old new : List ℕ) : Type 0 where
  pub there : kept_in new node ≡ Some answer
  pub others : (p : ℕ) → p ≢ node → kept_in new p ≡ kept_in old p

abbrev pub words_of : {A : Type 0} → List (Vec ℕ A) → Answers
words_of rows = map (λ row. row.items) rows

-- there are rows for so many states, each with room for so many words
pub record HasRoom {A : Type 0} (states words : ℕ) (rows : List (Vec ℕ A)) : Type 0 where
  pub enough : states ≤ length rows
  pub wide : (s : ℕ) (row : Vec ℕ A) → s < states → words ≤ vec_capacity (slice_index_or rows s row)
