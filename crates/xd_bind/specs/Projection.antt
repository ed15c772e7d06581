-- What a variable may be: the documents that accepting runs give it.
use Rattle.std.specs.Prelude.{◌≡◌, ℕ, ◌<◌, Bool, true, false, ◌&&◌, nat_eq, List, length, slice_get, slice_index_or, Some}
use Rattle.std.specs.List.{All, list_any}
use Rattle.xd_auto.specs.declared.auto.State.{State}
use Rattle.xd_auto.specs.Automaton.{Automaton, IsState}
use Rattle.xd_auto.specs.declared.kind.MoveKind.{MoveKind}
use Rattle.xd_auto.specs.declared.kind.MoveKind.TheVariants.{Label, Text}
use Rattle.xd_bind.specs.declared.tracks.Track.{Track}
use Rattle.xd_bind.specs.declared.tracks.Tracks.{Tracks}
use Rattle.xd_bind.specs.declared.tracks.Binding.{Binding}
use Rattle.xd_bind.specs.declared.tracks.Given.{Given}
use Rattle.xd_auto.specs.Traces.{Owned, AcceptsGiven, KeepsTogether}

abbrev pub is_kind : MoveKind → MoveKind → Bool
is_kind Label Label = true
is_kind Label Text = false
is_kind Text Label = false
is_kind Text Text = true

-- the track says that the move belongs to the variable
abbrev pub is_track : ℕ → MoveKind → State → ℕ → Track → Bool
is_track x kind s n t = is_kind t.kind kind && (nat_eq s.number t.state.number && (nat_eq t.number n && nat_eq t.variable x))

abbrev pub has_track : List Track → ℕ → MoveKind → State → ℕ → Bool
has_track marks x kind s n = list_any (is_track x kind s n) marks

-- the moves that belong to the variable
abbrev pub owned_by : List Track → ℕ → Owned
owned_by marks x = record { text = has_track marks x Text; element = has_track marks x Label }

-- the start is a state and each mark one of a state's move, and the items of each variable stand
-- together
pub record CanProject (tracks : Tracks) : Type 0 where
  pub start : IsState tracks.auto tracks.start
  pub marks : All (λ t. IsState tracks.auto t.state) tracks.marks.items
  pub together : (x : ℕ) → x < length tracks.variables.items → KeepsTogether tracks.auto (owned_by tracks.marks.items x) tracks.start

-- the variable of this number, and a state that accepts exactly what it is given
pub record IsBindingOf (tracks : Tracks) (x : ℕ) (binding : Binding) : Type 0 where
  pub variable : slice_get tracks.variables.items x ≡ Some binding.variable
  pub belongs : IsState binding.auto binding.state
  pub given : AcceptsGiven tracks.auto (owned_by tracks.marks.items x) tracks.start binding.auto binding.state

-- one for each variable, in their order
pub record AreBindings (tracks : Tracks) (bindings : List Binding) : Type 0 where
  pub count : length bindings ≡ length tracks.variables.items
  pub each : (x : ℕ) (d : Binding) → x < length bindings → IsBindingOf tracks x (slice_index_or bindings x d)

-- the same, where the states are those of one automaton, and `owned` are the moves that belong to
-- the variable of a number
pub record IsGivenOf (a : Automaton) (owned : ℕ → Owned) (start : State) (variables : List (List ℕ)) (made : Automaton) (x : ℕ) (one : Given) : Type 0 where
  pub variable : slice_get variables x ≡ Some one.variable
  pub belongs : IsState made one.state
  pub given : AcceptsGiven a (owned x) start made one.state

pub record AreGivens (a : Automaton) (owned : ℕ → Owned) (start : State) (variables : List (List ℕ)) (made : Automaton) (givens : List Given) : Type 0 where
  pub count : length givens ≡ length variables
  pub each : (x : ℕ) (d : Given) → x < length givens → IsGivenOf a owned start variables made x (slice_index_or givens x d)
