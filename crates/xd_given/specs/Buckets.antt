-- Marks by their states and numbers.
use Rattle.std.specs.Prelude.{ℕ, nat_eq, List, [], Option, Some, None, Vec, slice_get}
use Rattle.std.specs.HashMap.{HashMap, get}
use Rattle.xd_auto.specs.declared.auto.State.{State}
use Rattle.xd_auto.specs.declared.kind.MoveKind.TheVariants.{Label, Text}
use Rattle.xd_auto.specs.Traces.{Owned}
use Rattle.xd_bind.specs.declared.tracks.Track.{Track}
use Rattle.xd_bind.specs.Projection.{has_track}

abbrev pub tracks_of : {A : Type 0} → Option (Vec Track A) → List Track
tracks_of None = []
tracks_of (Some ts) = ts.items

-- the marks of this number
abbrev pub tracks_at : {A S : Type 0} → HashMap ℕ (Vec Track A) S → ℕ → List Track
tracks_at row n = tracks_of (get nat_eq row n)

abbrev pub tracks_in : {A S : Type 0} → Option (HashMap ℕ (Vec Track A) S) → ℕ → List Track
tracks_in None n = []
tracks_in (Some row) n = tracks_at row n

-- the marks of this state and number
abbrev pub bucket_at : {A S : Type 0} → List (HashMap ℕ (Vec Track A) S) → State → ℕ → List Track
bucket_at rows s n = tracks_in (slice_get rows s.number) n

-- the moves that they say to belong to the variable
abbrev pub owned_in : {A S : Type 0} → List (HashMap ℕ (Vec Track A) S) → ℕ → Owned
owned_in rows x = record { text = λ s n. has_track (bucket_at rows s n) x Text s n; element = λ s n. has_track (bucket_at rows s n) x Label s n }
