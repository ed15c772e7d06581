-- How the first run is followed: the first move that can succeed, and the items that wait.
use Rattle.std.specs.Prelude.{◌≡◌, ℕ, nat_eq, ◌+◌, ◌*◌, ◌<◌, Bool, true, false, cond, List, [], ◌∷◌, ◌++◌, length, slice_index_or, get_or, Vec}
use Rattle.std.specs.List.{AllByRecursion, list_any}
use Rattle.xd_doc.specs.Document.{Document, empty, join, size}
use Rattle.xd_doc.specs.DocumentCode.{first_then}
use Rattle.xd_doc.specs.Stored.{document_at}
use Rattle.xd_doc.specs.StoredSeq.{BelongsTo}
use Rattle.xd_doc.specs.declared.store.Seq.{Seq}
use Rattle.xd_auto.specs.Automaton.{Automaton, IsState, accepts}
use Rattle.xd_patterns.specs.Marked.{Marking}
use Rattle.xd_match.specs.declared.binding.Piece.{Piece}
use Rattle.xd_match.specs.declared.binding.Piece.TheVariants.{First, Whole}
use Rattle.xd_match.specs.declared.front.Task.{Task}
use Rattle.xd_match.specs.First.{first_held}

abbrev pub seq_of : Piece → Seq
seq_of (First seq) = seq
seq_of (Whole seq) = seq

-- the items of these in the store, in order, and then a document
abbrev pub pieces_then : List Document → List Piece → Document → Document
pieces_then ds [] d = d
pieces_then ds (First seq ∷ ps) d = first_then (document_at ds seq) (pieces_then ds ps d)
pieces_then ds (Whole seq ∷ ps) d = join (document_at ds seq) (pieces_then ds ps d)

abbrev pub PieceBelongs : List Document → Piece → Type 0
PieceBelongs ds p = BelongsTo ds (seq_of p)

-- the number of the first that passes the test
pub record IsFirst {X : Type 0} (test : X → Bool) (xs : List X) (n : ℕ) : Type 0 where
  pub within : n < length xs
  pub passes : (d : X) → test (slice_index_or xs n d) ≡ true
  pub before : (k : ℕ) (d : X) → k < n → test (slice_index_or xs k d) ≡ false

-- the state accepts the document
pub record IsReady (a : Automaton) (ds : List Document) (t : Task) : Type 0 where
  pub state : IsState a t.state
  pub seq : BelongsTo ds t.seq
  pub accepted : accepts a (document_at ds t.seq) t.state ≡ true

-- what first runs over the waiting documents give a variable, the last document first
abbrev pub waiting : Automaton → Marking → List Document → List ℕ → List Task → Document
waiting a k ds x [] = empty
waiting a k ds x (t ∷ ts) = join (waiting a k ds x ts) (first_held a k x (document_at ds t.seq) t.state)

-- the piece, where the variable is among the marked ones
abbrev pub noted : List ℕ → ℕ → Piece → List Piece
noted marks x piece = cond (list_any (λ n. nat_eq n x) marks) (piece ∷ []) []

-- the piece was added for each of the marked variables
pub record AddsPiece {A : Type 0} (old new : List (Vec Piece A)) (marks : List ℕ) (piece : Piece) : Type 0 where
  pub len : length new ≡ length old
  pub added : (x : ℕ) (e : Vec Piece A) → x < length old → (slice_index_or new x e).items ≡ (slice_index_or old x e).items ++ noted marks x piece

-- the work that waits
abbrev pub work : List Document → List Task → ℕ
work ds [] = 0
work ds (t ∷ ts) = work ds ts + (2 * size (document_at ds t.seq) + 1)

-- an item was taken: it was added for its variables, these tasks wait in the place of its own, and
-- they are less work
pub record TakesItem {A : Type 0} (a : Automaton) (k : Marking) (vs : List (List ℕ)) (ds : List Document) (t : Task) (old new : List (Vec Piece A)) (next : List Task) : Type 0 where
  pub ready : AllByRecursion (IsReady a ds) next
  pub same : length new ≡ length old
  pub belong : (x : ℕ) (e : Vec Piece A) → x < length old → AllByRecursion (PieceBelongs ds) (slice_index_or old x e).items → AllByRecursion (PieceBelongs ds) (slice_index_or new x e).items
  pub held_is : (x : ℕ) (e : Vec Piece A) (w : Document) → x < length old → x < length vs
      → pieces_then ds (slice_index_or new x e).items (join (waiting a k ds (get_or vs x []) next) w)
      ≡ pieces_then ds (slice_index_or old x e).items (join (first_held a k (get_or vs x []) (document_at ds t.seq) t.state) w)
  pub less : work ds next < 2 * size (document_at ds t.seq) + 1

-- the pieces that each variable has so far belong to the store, and with those that wait they are
-- what the first run gives it
pub record AreTaken {A : Type 0} (a : Automaton) (k : Marking) (vs : List (List ℕ)) (ds : List Document) (start : Task) (items : List (Vec Piece A)) (tasks : List Task) : Type 0 where
  pub count : length items ≡ length vs
  pub ready : AllByRecursion (IsReady a ds) tasks
  pub belong : (x : ℕ) (e : Vec Piece A) → x < length vs → AllByRecursion (PieceBelongs ds) (slice_index_or items x e).items
  pub held_is : (x : ℕ) (e : Vec Piece A) → x < length vs
      → pieces_then ds (slice_index_or items x e).items (waiting a k ds (get_or vs x []) tasks) ≡ first_held a k (get_or vs x []) (document_at ds start.seq) start.state

-- what was taken before stays so, where these tasks wait now
abbrev pub TakesTask : {A : Type 0} → Automaton → Marking → List (List ℕ) → List Document → List (Vec Piece A) → List (Vec Piece A) → List Task → List Task → Type 0
TakesTask a k vs ds old new tasks tasks2 = (start : Task) → AreTaken a k vs ds start old tasks → AreTaken a k vs ds start new tasks2
