-- A list of pieces, gone through step by step.
use Rattle.std.specs.Prelude.{◌≡◌, ◌⊎◌, ℕ, ◌+◌, ◌-◌, ◌≤◌, nat_eq, Bool, true, false, List, [], ◌∷◌, ◌++◌, map, flat_map, reverse, take, length, Option, Some, None}
use Rattle.std.specs.List.{AllZip}
use Rattle.xd_doc.specs.Members.{IsOneOf}
use Rattle.xd_syntax.specs.Tree.{Definitions}
use Rattle.xd_pattern_runs.specs.Alike.{Alike}
use Rattle.xd_pattern_runs.specs.Runs.{Choice, choices}
use Rattle.xd_pattern_runs.specs.Steps.{Ahead, choices_ahead}
use Rattle.xd_continuations.specs.Chains.{list_at}
use Rattle.xd_patterns.specs.Tasks.{Tables, pieces_at, continuation, ArePieces, StandsFor, PutsTasks, choice_at, StandFound, Collects, Adds}
use Rattle.xd_patterns.specs.Work.{steps_of, work_left}
use Rattle.xd_continuations.specs.declared.links.Link.{Link}
use Rattle.xd_patterns.specs.declared.chains.Piece.{Piece}
use Rattle.xd_patterns.specs.declared.expand.Task.{Task}
use Rattle.xd_patterns.specs.declared.expand.Found.{Found}

abbrev pub ends_turn : Option ℕ → ℕ → Bool
ends_turn None n = false
ends_turn (Some k) n = nat_eq k n

-- what stands ahead of a task was found, or is left to other tasks
pub record IsExpanded (E : Definitions) (t : Tables) (m m' : List (Link ℕ)) (c c' : List (Link Piece)) (old new : List Task) (found found' : List Found) (a : Ahead) : Type 0 where
  pub adds : Adds t m m' c c'
  pub own : List Choice
  pub left : List Ahead
  pub alike : Alike (choices_ahead E a) (own ++ flat_map (choices_ahead E) left)
  pub less : work_left E left + 1 ≤ steps_of E a.front
  pub tasks : PutsTasks t m' c' old new left
  pub items : Collects t m' c' found found' own

-- what stands before the end of the turn
abbrev pub before_end : List (Link Piece) → Option ℕ → List Piece → List Piece
before_end c None K = K
before_end c (Some n) K = take (length K - length (list_at c n)) K

-- how many steps tasks take at most
abbrev pub task_steps : Definitions → Tables → List (Link ℕ) → List (Link Piece) → Task → ℕ
task_steps E t m c x = steps_of E (pieces_at t m (before_end c x.turn (list_at c x.cell)))

abbrev pub all_steps : Definitions → Tables → List (Link ℕ) → List (Link Piece) → List Task → ℕ
all_steps E t m c [] = 0
all_steps E t m c (x ∷ xs) = task_steps E t m c x + all_steps E t m c xs

-- the task is put after the others, or stands among them
abbrev pub Enters : List Task → Task → List Task → Bool → Type 0
Enters old x new true = new ≡ old ++ x ∷ []
Enters old x new false = IsOneOf x old × (new ≡ old)

-- nothing changes
pub record IsSkipped (m m' : List (Link ℕ)) (c c' : List (Link Piece)) (old new : List Task) (found found' : List Found) (seen seen' : List Task) (x : Task) : Type 0 where
  pub among : IsOneOf x seen
  pub seen_same : seen' ≡ seen
  pub marks_same : m' ≡ m
  pub cells_same : c' ≡ c
  pub tasks_same : new ≡ old
  pub found_same : found' ≡ found

pub record IsStepped (E : Definitions) (t : Tables) (m m' : List (Link ℕ)) (c c' : List (Link Piece)) (old new : List Task) (found found' : List Found) (seen seen' : List Task) (x : Task) : Type 0 where
  pub entered : seen' ≡ seen ++ x ∷ []
  pub expanded : (a : Ahead) → StandsFor t m c x a → IsExpanded E t m m' c c' old new found found' a

-- a task that was seen is left, and any other one is taken a step
abbrev pub IsVisited : Definitions → Tables → List (Link ℕ) → List (Link ℕ) → List (Link Piece) → List (Link Piece) → List Task → List Task → List Found → List Found → List Task → List Task → Task → Type 0
IsVisited E t m m' c c' old new found found' seen seen' x =
    IsSkipped m m' c c' old new found found' seen seen' x ⊎ IsStepped E t m m' c c' old new found found' seen seen' x

-- What the task stands for was found, or will be by the last of those that wait, each of which
-- takes fewer steps.
pub record IsGoneThrough (E : Definitions) (t : Tables) (m : List (Link ℕ)) (c : List (Link Piece)) (waiting : List Ahead) (found : List Found) (x : Task) : Type 0 where
  pub ahead_of : Ahead
  pub stands : StandsFor t m c x ahead_of
  pub below : List Ahead
  pub above : List Ahead
  pub split : waiting ≡ below ++ above
  pub less : (w : Ahead) → IsOneOf w above → steps_of E w.front + 1 ≤ steps_of E ahead_of.front
  pub all : (d : Choice) → IsOneOf d (choices_ahead E ahead_of) → IsOneOf d (map (choice_at t m c) found) ⊎ IsOneOf d (flat_map (choices_ahead E) above)

-- what was found and what waits is all that can come next
pub record IsExpanding (E : Definitions) (t : Tables) (m m' : List (Link ℕ)) (c c' : List (Link Piece)) (number : ℕ) (tasks : List Task) (found : List Found) (seen : List Task) : Type 0 where
  pub adds : Adds t m m' c c'
  pub pieces : ArePieces t m' c'
  pub waiting : List Ahead
  pub tasks_stand : AllZip (StandsFor t m' c') tasks waiting
  pub found_stand : StandFound t m' c' found
  pub alike : Alike (map (choice_at t m' c') found ++ flat_map (choices_ahead E) (reverse waiting)) (choices E (continuation t m c number))
  pub gone : (x : Task) → IsOneOf x seen → IsGoneThrough E t m' c' waiting found x

-- all that can come next, in order of preference, each at least where it stands first
pub record AreFound (E : Definitions) (t : Tables) (m m' : List (Link ℕ)) (c c' : List (Link Piece)) (number : ℕ) (found : List Found) : Type 0 where
  pub adds : Adds t m m' c c'
  pub stand : StandFound t m' c' found
  pub alike : Alike (map (choice_at t m' c') found) (choices E (continuation t m c number))
