-- The moves of a continuation by a stack of tasks: in each a type, and the continuation after it.
use Rattle.std.specs.Prelude.{ℕ, ◌+◌, Bool, cond, List, [], ◌∷◌, ◌++◌, map, flat_map, length, Option, Some, None}
use Rattle.xd_syntax.specs.Tree.{Tree, Empty, Text, Words, Name, Elem, Seq, Alt, Star, Plus, Opt, Val, Definitions, body}
use Rattle.xd_meaning.specs.Heads.{pieces, all_texts}
use Rattle.xd_meaning.specs.CanBeEmpty.{can_be_empty}
use Rattle.xd_continuations.specs.Continuation.{Move, followed, text_move, label_move, name_within, moves_within}

pub record Task : Type 0 where
  pub part : Tree
  pub behind : List Tree

-- the pieces of a list, one after the other, as long as those before can be empty, with a
-- continuation after them
abbrev pub in_front : (Tree → Bool) → List Tree → List Tree → List Task
in_front Z [] K = []
in_front Z (T ∷ Ts) K = record { part = T; behind = Ts ++ K } ∷ cond (Z T) (in_front Z Ts K) []

-- the parts of an alternative
abbrev pub options : Tree → List Tree
options Empty = Empty ∷ []
options Text = Text ∷ []
options (Words w) = (Words w) ∷ []
options (Name x) = Name x ∷ []
options (Elem c T) = Elem c T ∷ []
options (Seq T U) = Seq T U ∷ []
options (Alt T U) = T ∷ options U
options (Star T) = Star T ∷ []
options (Plus T) = Plus T ∷ []
options (Opt T) = Opt T ∷ []
options (Val x T) = Val x T ∷ []

abbrev pub task : List Tree → Tree → Task
task K T = record { part = T; behind = K }

abbrev pub definition_task : Option Tree → List Tree → List Task
definition_task None K = []
definition_task (Some T) K = task K T ∷ []

-- the moves that a task gives itself
abbrev pub own_moves : Tree → List Tree → List Move
own_moves Text K = followed K (text_move all_texts) ∷ []
own_moves (Words w) K = followed K (text_move w) ∷ []
own_moves (Elem c T) K = followed K (label_move c T) ∷ []
own_moves _ K = []

-- the tasks that it leaves, in order
abbrev pub tasks_left : Definitions → Tree → List Tree → List Task
tasks_left E Empty K = []
tasks_left E Text K = []
tasks_left E (Words w) K = []
tasks_left E (Name x) K = definition_task (body E x) K
tasks_left E (Elem c T) K = []
tasks_left E (Seq T U) K = in_front (can_be_empty E) (T ∷ pieces U) K
tasks_left E (Alt T U) K = map (task K) (options (Alt T U))
tasks_left E (Star T) K = task (Star T ∷ K) T ∷ []
tasks_left E (Plus T) K = task (Star T ∷ K) T ∷ []
tasks_left E (Opt T) K = task K T ∷ []
tasks_left E (Val x T) K = task K T ∷ []

-- the tasks worked off from the first on, each with what it leaves before the others, and the moves
-- that they give
pub data Gives (E : Definitions) : List Task → List Move → Type 0 where
  all_done : Gives E [] []
  work : {t : Task} {ts : List Task} {ms : List Move} → Gives E (tasks_left E t.part t.behind ++ ts) ms → Gives E (t ∷ ts) (own_moves t.part t.behind ++ ms)

-- the tasks of a continuation
abbrev pub tasks_of : Definitions → List Tree → List Task
tasks_of E K = in_front (can_be_empty E) K []

-- the moves that tasks stand for
abbrev pub task_moves : Definitions → Task → List Move
task_moves E t = map (followed t.behind) (moves_within E (length E) t.part)

unfoldable pub moves_to_come : Definitions → List Task → List Move
moves_to_come E ts = flat_map (task_moves E) ts

-- how many tasks a type makes, where N says it of names
abbrev pub work_by : (Tree → Bool) → (List ℕ → ℕ) → Tree → ℕ
work_by Z N Empty = 1
work_by Z N Text = 1
work_by Z N (Words w) = 1
work_by Z N (Name x) = N x + 1
work_by Z N (Elem c T) = 1
work_by Z N (Seq T U) = work_by Z N T + cond (Z T) (work_by Z N U) 0 + 1
work_by Z N (Alt T U) = work_by Z N T + work_by Z N U + 1
work_by Z N (Star T) = work_by Z N T + 1
work_by Z N (Plus T) = work_by Z N T + 1
work_by Z N (Opt T) = work_by Z N T + 1
work_by Z N (Val x T) = work_by Z N T + 1

abbrev pub work_of : Definitions → Tree → ℕ
work_of E T = work_by (can_be_empty E) (name_within 0 (work_by (can_be_empty E)) E (length E)) T

abbrev pub sum_of_work : Definitions → List Task → ℕ
sum_of_work E [] = 0
sum_of_work E (t ∷ ts) = work_of E t.part + sum_of_work E ts

-- how many tasks are worked off before none is left
unfoldable pub work_left : Definitions → List Task → ℕ
work_left E ts = sum_of_work E ts
