-- Tracks that say what the marks of a pattern's moves say.
use Rattle.std.specs.Prelude.{◌≡◌, ℕ, ◌<◌, Bool, true, List, [], length, get_or}
use Rattle.std.specs.List.{All}
use Rattle.xd_auto.specs.declared.auto.State.{State}
use Rattle.xd_auto.specs.Automaton.{Automaton, IsState, StateMoves, moves_at}
use Rattle.xd_auto.specs.declared.kind.MoveKind.{MoveKind}
use Rattle.xd_auto.specs.declared.kind.MoveKind.TheVariants.{Label, Text}
use Rattle.xd_auto.specs.Traces.{KeepsTogether}
use Rattle.xd_syntax.specs.Words.{has_word}
use Rattle.xd_bind.specs.Projection.{has_track}
use Rattle.xd_bind.specs.declared.tracks.Track.{Track}
use Rattle.xd_patterns.specs.Held.{marking_of, variables_in}
use Rattle.xd_patterns.specs.declared.marked.Marked.{Marked}
use Rattle.xd_patterns.specs.Marked.{marks_at, moves_of}

-- the move belongs to the variable of this number
abbrev pub is_held : Marked → State → MoveKind → ℕ → ℕ → Bool
is_held m s kind n x = has_word (marks_at (marking_of m s) kind n) (get_or (variables_in m) x [])

-- the track is one of a state's, and its move belongs to its variable
pub record IsTrue (a : Automaton) (m : Marked) (t : Track) : Type 0 where
  pub state : IsState a t.state
  pub held : is_held m t.state t.kind t.number t.variable ≡ true

-- true tracks were added, all that there are at these places
pub record MoreTracks (a : Automaton) (m : Marked) (here : State → MoveKind → ℕ → ℕ → Type 0) (old new : List Track) : Type 0 where
  pub sound : All (IsTrue a m) old → All (IsTrue a m) new
  pub keeps : (s : State) (kind : MoveKind) (n x : ℕ) → has_track old x kind s n ≡ true → has_track new x kind s n ≡ true
  pub whole : (s : State) (kind : MoveKind) (n x : ℕ) → here s kind n x → is_held m s kind n x ≡ true → has_track new x kind s n ≡ true

-- this move, and one of the first variables
abbrev pub IsOfMove : State → MoveKind → ℕ → ℕ → State → MoveKind → ℕ → ℕ → Type 0
IsOfMove state kind number variables s k n x = (s ≡ state) × (k ≡ kind) × (n ≡ number) × (x < variables)

-- one of the state's first moves of this kind
abbrev pub IsOfMoves : State → MoveKind → ℕ → ℕ → State → MoveKind → ℕ → ℕ → Type 0
IsOfMoves state kind count variables s k n x = (s ≡ state) × (k ≡ kind) × (n < count) × (x < variables)

-- how many moves of a kind there are
abbrev pub count_of : StateMoves → MoveKind → ℕ
count_of moves Label = length moves.labels
count_of moves Text = length moves.texts

-- a move of one of the first states
abbrev pub IsOfStates : Automaton → ℕ → ℕ → State → MoveKind → ℕ → ℕ → Type 0
IsOfStates a count variables s k n x = (s.number < count) × (n < count_of (moves_at a s) k) × (x < variables)

-- the items that an accepting run gives a variable stand together
abbrev pub KeepTogether : Automaton → Marked → Type 0
KeepTogether a m = (x : List ℕ) → KeepsTogether a (moves_of (marking_of m) x) m.start
