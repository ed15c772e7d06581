-- What lists of pieces, tasks, and what they find stand for.
use Rattle.std.specs.Prelude.{◌≡◌, ℕ, ◌≤◌, ◌⊎◌, Bool, true, false, cond, List, [], ◌∷◌, ◌++◌, map, reverse, length, Option, Some, None, option_map}
use Rattle.std.specs.List.{AllByRecursion, AllZip}
use Rattle.xd_doc.specs.Members.{IsOneOf}
use Rattle.xd_syntax.specs.Tree.{Tree, Text, Words, Elem, Definitions}
use Rattle.xd_meaning.specs.Heads.{all_texts}
use Rattle.xd_syntax.specs.Table.{Row}
use Rattle.xd_pattern_runs.specs.Alike.{Alike}
use Rattle.xd_pattern_runs.specs.Runs as Runs
use Rattle.xd_pattern_runs.specs.Runs.{Continuation, Choice, stop, take_text, take_element, start}
use Rattle.xd_pattern_runs.specs.Steps.{Ahead, ahead, part_choice, part_steps}
use Rattle.xd_continuations.specs.Chains.{list_at, HasLink, KeepsLinks}
use Rattle.xd_patterns.specs.Pieces.{form_at, part_of, variable_of, IsBinder, IsPieceOf}
use Rattle.xd_continuations.specs.declared.links.Link.{Link}
use Rattle.xd_patterns.specs.declared.chains.Piece.{Piece}
use Rattle.xd_patterns.specs.declared.expand.Task.{Task}
use Rattle.xd_patterns.specs.declared.expand.Found.{Found}

-- the tables of nodes
pub record Tables : Type 0 where
  pub types : List Row
  pub patterns : List Row

abbrev pub rows_of : Tables → Bool → List Row
rows_of t of_pattern = cond of_pattern t.patterns t.types

abbrev pub piece_part : Tables → Piece → Tree
piece_part t q = part_of (rows_of t q.of_pattern) q

-- the variables whose binders' nodes the list of this number has
abbrev pub words_at : Tables → List (Link ℕ) → ℕ → List (List ℕ)
words_at t marks n = map (λ i. variable_of (form_at t.patterns i)) (list_at marks n)

abbrev pub piece_at : Tables → List (Link ℕ) → Piece → Runs.Piece
piece_at t marks q = record { marks = words_at t marks q.marks; part = piece_part t q }

abbrev pub pieces_at : Tables → List (Link ℕ) → List Piece → Continuation
pieces_at t marks qs = map (piece_at t marks) qs

-- what stands ahead under this number
abbrev pub continuation : Tables → List (Link ℕ) → List (Link Piece) → ℕ → Continuation
continuation t marks cells n = pieces_at t marks (list_at cells n)

-- the piece is one of its table, and its marks are there
pub record IsPiece (t : Tables) (marks : List (Link ℕ)) (q : Piece) : Type 0 where
  pub piece : IsPieceOf (rows_of t q.of_pattern) q
  pub marked : q.marks ≤ length marks

abbrev pub ArePieces : Tables → List (Link ℕ) → List (Link Piece) → Type 0
ArePieces t marks cells = AllByRecursion (λ (c : Link Piece). IsPiece t marks c.item) cells

-- the links of marks are binders
abbrev pub AreBinders : Tables → List (Link ℕ) → Type 0
AreBinders t marks = AllByRecursion (λ (l : Link ℕ). IsBinder t.patterns l.item) marks

abbrev pub or_none : Option (List Piece) → List Piece
or_none None = []
or_none (Some qs) = qs

-- the list after a turn, by its number
abbrev pub IsTurn : List (Link Piece) → Option ℕ → Option (List Piece) → Type 0
IsTurn cells None None = Unit {0}
IsTurn cells (Some n) (Some qs) = (n ≤ length cells) × (list_at cells n ≡ qs)
IsTurn cells None (Some qs) = ⊥
IsTurn cells (Some n) None = ⊥

-- the task is for what stands ahead: up to the end of the turn, and after it
pub record StandsFor (t : Tables) (marks : List (Link ℕ)) (cells : List (Link Piece)) (task : Task) (a : Ahead) : Type 0 where
  pub within : task.cell ≤ length cells
  pub front : List Piece
  pub turn : Option (List Piece)
  pub list : list_at cells task.cell ≡ front ++ or_none turn
  pub turned : IsTurn cells task.turn turn
  pub is : a ≡ ahead (pieces_at t marks front) (option_map (pieces_at t marks) turn)

-- tasks are put on the others: these, the first of them on top
abbrev pub PutsTasks : Tables → List (Link ℕ) → List (Link Piece) → List Task → List Task → List Ahead → Type 0
PutsTasks t marks cells old new ts =
    (waiting : List Ahead) → AllZip (StandsFor t marks cells) old waiting → AllZip (StandsFor t marks cells) new (waiting ++ reverse ts)

abbrev pub item_choice : List (List ℕ) → Tree → Continuation → Choice
item_choice xs Text K = take_text all_texts xs K
item_choice xs (Words w) K = take_text w xs K
item_choice xs (Elem c T) K = take_element c (start T) xs K
item_choice xs _ K = stop

-- the choice that was found
abbrev pub choice_at : Tables → List (Link ℕ) → List (Link Piece) → Found → Choice
choice_at t marks cells f = cond f.is_stop stop (item_choice (words_at t marks f.piece.marks) (piece_part t f.piece) (continuation t marks cells f.rest))

-- a text or an element
abbrev pub is_item : Tree → Bool
is_item Text = true
is_item (Words w) = true
is_item (Elem c T) = true
is_item _ = false

pub record IsFound (t : Tables) (marks : List (Link ℕ)) (cells : List (Link Piece)) (f : Found) : Type 0 where
  pub piece : IsPiece t marks f.piece
  pub item : is_item (piece_part t f.piece) ≡ true
  pub rest : f.rest ≤ length cells

abbrev pub StandFound : Tables → List (Link ℕ) → List (Link Piece) → List Found → Type 0
StandFound t marks cells fs = AllByRecursion (λ (f : Found). (f.is_stop ≡ true) ⊎ IsFound t marks cells f) fs

-- these choices are found after the others, where a choice that was found before need not stand
-- again
pub record Collects (t : Tables) (marks : List (Link ℕ)) (cells : List (Link Piece)) (old new : List Found) (cs : List Choice) : Type 0 where
  pub stand : StandFound t marks cells old → StandFound t marks cells new
  pub alike : Alike (map (choice_at t marks cells) new) (map (choice_at t marks cells) old ++ cs)

-- lists are added
pub record Adds (t : Tables) (old_marks new_marks : List (Link ℕ)) (old_cells new_cells : List (Link Piece)) : Type 0 where
  pub marks : KeepsLinks old_marks new_marks
  pub cells : KeepsLinks old_cells new_cells
  pub pieces : ArePieces t old_marks old_cells → ArePieces t new_marks new_cells
  pub binders : AreBinders t old_marks → AreBinders t new_marks

-- a list is made of the piece and an older list, and one more task is for it
pub record PushesPart (old_cells new_cells : List (Link Piece)) (old new : List Task) (q : Piece) (behind : ℕ) (turn : Option ℕ) : Type 0 where
  pub number : ℕ
  pub link : HasLink old_cells (record { item = q; behind = behind }) new_cells
  pub within : number ≤ length new_cells
  pub list : list_at new_cells number ≡ q ∷ list_at old_cells behind
  pub pushed : new ≡ old ++ record { cell = number; turn = turn } ∷ []

-- the same with two pieces
pub record PushesRow (old_cells new_cells : List (Link Piece)) (old new : List Task) (q r : Piece) (behind : ℕ) (turn : Option ℕ) : Type 0 where
  pub between : List (Link Piece)
  pub number : ℕ
  pub link : HasLink old_cells (record { item = r; behind = behind }) between
  pub list : list_at between number ≡ r ∷ list_at old_cells behind
  pub pushed : PushesPart between new_cells old new q number turn

-- the same for the node of a name's body, where there is one
abbrev pub PushesBody : Option ℕ → List (Link Piece) → List (Link Piece) → List Task → List Task → ℕ → ℕ → Option ℕ → Type 0
PushesBody None old_cells new_cells old new marks behind turn = (new_cells ≡ old_cells) × (new ≡ old)
PushesBody (Some i) old_cells new_cells old new marks behind turn =
    PushesPart old_cells new_cells old new (record { of_pattern = false; node = i; from = 0; is_turns = false; marks = marks }) behind turn

-- the piece is the part, and its list of marks is made of the binder's node and marks
pub record IsBound (old new : List (Link ℕ)) (binder part bound : Piece) : Type 0 where
  pub link : HasLink old (record { item = binder.node; behind = binder.marks }) new
  pub within : bound.marks ≤ length new
  pub list : list_at new bound.marks ≡ binder.node ∷ list_at old binder.marks
  pub same : bound ≡ record part { marks = bound.marks }

-- what is found is kept where it stands first
abbrev pub HasFound : List Found → Found → List Found → Type 0
HasFound old f new = (IsOneOf f old × (new ≡ old)) ⊎ (new ≡ old ++ f ∷ [])

-- the step of a piece that stands first, before F and what is after a turn
pub record IsStep (t : Tables) (E : Definitions) (m m' : List (Link ℕ)) (c c' : List (Link Piece)) (old new : List Task) (found found' : List Found) (q : Piece) (behind : ℕ) (turn : Option ℕ) : Type 0 where
  pub adds : Adds t m m' c c'
  pub tasks : (F : List Piece) (u : Option (List Piece)) → list_at c behind ≡ F ++ or_none u → IsTurn c turn u → ArePieces t m c →
      PutsTasks t m' c' old new (part_steps E (words_at t m q.marks) (piece_part t q) (pieces_at t m F) (option_map (pieces_at t m) u))
  pub items : (F : List Piece) (u : Option (List Piece)) → list_at c behind ≡ F ++ or_none u → IsTurn c turn u → ArePieces t m c →
      Collects t m' c' found found' (part_choice (words_at t m q.marks) (piece_part t q) (pieces_at t m F) (option_map (pieces_at t m) u))
