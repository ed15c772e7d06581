-- The types, continuations and moves that pieces, cells and tasks stand for.
use Rattle.std.specs.Prelude.{◌≡◌, ℕ, ◌<◌, ◌≤◌, Bool, true, false, cond, List, [], ◌∷◌, ◌++◌, map, reverse, length, get_or}
use Rattle.std.specs.List.{AllByRecursion}
use Rattle.xd_syntax.specs.Tree.{Tree, Words, Elem, Star, Plus, Definitions, body}
use Rattle.xd_syntax.specs.Table.{Row, Form, empty_form, text_form, words_form, name_form, elem_form, seq_form, alt_form, star_form, plus_form, opt_form, val_form, tree_at}
use Rattle.xd_sound.specs.TypeNames.{meanings}
use Rattle.xd_rules.specs.Heads.{element_in, text_in}
use Rattle.xd_meaning.specs.Heads.{pieces, all_texts}
use Rattle.xd_meaning.specs.CanBeEmpty.{can_be_empty}
use Rattle.xd_syntax.specs.declared.types.TypeDef.{TypeDef}
use Rattle.xd_continuations.specs.Continuation.{Move, moves}
use Rattle.xd_continuations.specs.Expansion.{Task, task, definition_task, own_moves, tasks_left}
use Rattle.xd_continuations.specs.TailUses.{RecursOnlyInTail}
use Rattle.xd_continuations.specs.Bounds.{NoneLarger, IsBounded}
use Rattle.xd_continuations.specs.Chains.{list_at, KeepsLinks}
use Rattle.xd_moves.specs.Pieces.{piece_tree}
use Rattle.xd_moves.specs.Cells.{Cell}
use Rattle.xd_moves.specs.declared.expansion.Found.{Found}

-- the continuation with this number
abbrev pub continuation : List Row → List Cell → ℕ → List Tree
continuation types cells n = map (piece_tree types) (list_at cells n)

-- a cell as a task: its piece is to be worked off, before what is after it
abbrev pub task_at : List Row → List Cell → Cell → Task
task_at types cells c = record { part = piece_tree types c.item; behind = continuation types cells c.behind }

-- tasks that wait, the next of them last
abbrev pub waiting_at : List Row → List Cell → List Cell → List Task
waiting_at types cells cs = reverse (map (task_at types cells) cs)

abbrev pub move_of : Tree → List Tree → Move
move_of (Elem c T) K = record { kind = element_in c; content = pieces T; rest = K }
move_of (Words w) K = record { kind = text_in w; content = []; rest = K }
move_of _ K = record { kind = text_in all_texts; content = []; rest = K }

-- the move that was found
abbrev pub move_at : List Row → List Cell → Found → Move
move_at types cells f = move_of (tree_at types f.node) (continuation types cells f.rest)

-- the nodes are there
abbrev pub AreOfTypes : List Row → List Cell → Type 0
AreOfTypes types cells = AllByRecursion (λ (c : Cell). c.item.node < length types) cells

-- the node is there, and what is after it
abbrev pub IsTask : List Row → List Cell → Cell → Type 0
IsTask types cells c = (c.item.node < length types) × (c.behind ≤ length cells)

abbrev pub IsFound : List Row → List Cell → Found → Type 0
IsFound types cells f = (f.node < length types) × (f.rest ≤ length cells)

-- cells are added, and their nodes are there where those of the old ones are
pub record AddsCells (types : List Row) (old new : List Cell) : Type 0 where
  pub kept : KeepsLinks old new
  pub nodes : AreOfTypes types old → AreOfTypes types new

-- no continuation of the cells is too long, where no type has more than m nodes
abbrev pub AreBounded : Definitions → ℕ → List Row → List Cell → Type 0
AreBounded E m types cells = (n : ℕ) → n ≤ length cells → IsBounded E m (continuation types cells n)

-- the cells that are added stand for no longer continuations than this one, or for its rests
abbrev pub StayBounded : List Row → List Cell → List Cell → List Tree → Type 0
StayBounded types old new K = (E : Definitions) (m : ℕ) → AreBounded E m types old → IsBounded E m K → AreBounded E m types new

-- tasks are put on the others, the first of them on top: these, in order
pub record PutsTasks (types : List Row) (cells : List Cell) (old new : List Cell) (ts : List Task) : Type 0 where
  pub put : List Cell
  pub grown : new ≡ old ++ put
  pub stand : AllByRecursion (IsTask types cells) put
  pub same : waiting_at types cells put ≡ ts

-- moves are found after the others: these, in order
pub record Finds (types : List Row) (cells : List Cell) (old new : List Found) (ms : List Move) : Type 0 where
  pub found : List Found
  pub grown : new ≡ old ++ found
  pub stand : AllByRecursion (IsFound types cells) found
  pub same : map (move_at types cells) found ≡ ms

-- a task is worked off: it leaves its tasks, and gives its moves
pub record IsWorkedOff (types : List Row) (ds : List TypeDef) (old new : List Cell) (task : Cell) (waiting left : List Cell) (known found : List Found) : Type 0 where
  pub cells : AddsCells types old new
  pub tasks : PutsTasks types new waiting left (tasks_left (meanings types ds) (piece_tree types task.item) (continuation types old task.behind))
  pub moves : Finds types new known found (own_moves (piece_tree types task.item) (continuation types old task.behind))
  pub bounded : StayBounded types old new (piece_tree types task.item ∷ continuation types old task.behind)

-- the mark of each node says whether it can be empty
pub record AreDecidingMarks (types : List Row) (ds : List TypeDef) (marks : List Bool) : Type 0 where
  pub count : length marks ≡ length types
  pub right : (i : ℕ) → i < length types → get_or marks i false ≡ can_be_empty (meanings types ds) (tree_at types i)

-- all moves of a continuation, in order, repetitions kept
pub record AreMovesOf (types : List Row) (ds : List TypeDef) (old new : List Cell) (number : ℕ) (found : List Found) : Type 0 where
  pub cells : AddsCells types old new
  pub stand : AllByRecursion (IsFound types new) found
  pub same : map (move_at types new) found ≡ moves (meanings types ds) (continuation types old number)
  pub bounded : (m : ℕ) → RecursOnlyInTail (meanings types ds) → NoneLarger m (meanings types ds) → AreBounded (meanings types ds) m types old → AreBounded (meanings types ds) m types new

-- the tasks of a sequence, where the marks say which nodes can be empty
abbrev pub marked_front : List Row → List Bool → List ℕ → List Tree → List Task
marked_front types marks [] K = []
marked_front types marks (i ∷ is) K =
    record { part = tree_at types i; behind = map (tree_at types) is ++ K } ∷ cond (get_or marks i false) (marked_front types marks is K) []

abbrev pub PutsSequence : List Row → List Bool → List Cell → List Cell → List Cell → List ℕ → List Tree → Type 0
PutsSequence types marks cells old new is K = PutsTasks types cells old new (marked_front types marks is K)

-- the tasks that a node of this form leaves
abbrev pub form_tasks : List Row → List TypeDef → List Bool → Form → List Tree → List Task
form_tasks types ds marks empty_form K = []
form_tasks types ds marks text_form K = []
form_tasks types ds marks (words_form w) K = []
form_tasks types ds marks (name_form w) K = definition_task (body (meanings types ds) w) K
form_tasks types ds marks (elem_form c i) K = []
form_tasks types ds marks (seq_form is) K = marked_front types marks is K
form_tasks types ds marks (alt_form is) K = map (task K) (map (tree_at types) is)
form_tasks types ds marks (star_form i) K = task (Star (tree_at types i) ∷ K) (tree_at types i) ∷ []
form_tasks types ds marks (plus_form i) K = task (Star (tree_at types i) ∷ K) (tree_at types i) ∷ []
form_tasks types ds marks (opt_form i) K = task K (tree_at types i) ∷ []
form_tasks types ds marks (val_form x p i) K = task K (tree_at types i) ∷ []

-- the continuation that it puts into cells
abbrev pub form_put : List Row → Form → List Tree → List Tree
form_put types empty_form K = K
form_put types text_form K = K
form_put types (words_form w) K = K
form_put types (name_form w) K = K
form_put types (elem_form c i) K = K
form_put types (seq_form is) K = map (tree_at types) is ++ K
form_put types (alt_form is) K = K
form_put types (star_form i) K = Star (tree_at types i) ∷ K
form_put types (plus_form i) K = Star (tree_at types i) ∷ K
form_put types (opt_form i) K = K
form_put types (val_form x p i) K = K

-- the moves that it gives itself, where it has this number
abbrev pub form_moves : List Row → ℕ → Form → List Tree → List Move
form_moves types n empty_form K = []
form_moves types n text_form K = move_of (tree_at types n) K ∷ []
form_moves types n (words_form w) K = move_of (tree_at types n) K ∷ []
form_moves types n (name_form w) K = []
form_moves types n (elem_form c i) K = move_of (tree_at types n) K ∷ []
form_moves types n (seq_form is) K = []
form_moves types n (alt_form is) K = []
form_moves types n (star_form i) K = []
form_moves types n (plus_form i) K = []
form_moves types n (opt_form i) K = []
form_moves types n (val_form x p i) K = []

abbrev pub is_plus : Tree → Bool
is_plus (Plus T) = true
is_plus _ = false

-- the number is that of this continuation, whose cells are added
pub record IsContent (types : List Row) (old new : List Cell) (K : List Tree) (number : ℕ) : Type 0 where
  pub cells : AddsCells types old new
  pub within : number ≤ length new
  pub same : continuation types new number ≡ K
  pub bounded : StayBounded types old new K
