-- The shelf in memory, as contracts see it.
use Rattle.std.specs.Prelude.{ℕ, List, [], ◌∷◌, Option, Some, None, Result, Ok, Err, if◌then◌else◌, String, Vec}
use Rattle.std.specs.Str.{bytes_eq}
use Rattle.std.specs.String.{string_bytes}
use Rattle.xd_base.specs.Transfers.{next_count}
use Rattle.xd_base.specs.declared.error.FetchError.{FetchError}
use Rattle.xd_base.specs.declared.error.FetchError.TheVariants.{Failed, Missing, NoMemory}

-- a text and its name
pub record Held : Type 0 where
  pub name : List ℕ
  pub text : List ℕ

-- an entry of the map that keeps the texts
abbrev pub held_of : {A B : Type 0} → String A × Vec ℕ B → Held
held_of entry = record { name = string_bytes entry.0; text = entry.1.items }

-- the texts, the numbers of the calls that are to fail, and the calls and faults so far
pub record ShelfState : Type 0 where
  pub texts : List Held
  pub failing : List ℕ
  pub calls : ℕ
  pub faults : ℕ

-- the text of a name
abbrev pub text_of : List Held → List ℕ → Option (List ℕ)
text_of [] name = None
text_of (held ∷ more) name = if bytes_eq name held.name then Some held.text else text_of more name

-- a call was counted
abbrev pub called : ShelfState → ShelfState
called s = record s { calls = next_count s.calls }

-- the shelf after a fetch with this result
abbrev pub fetched : {T : Type 0} → ShelfState → Result T FetchError → ShelfState
fetched s (Ok text) = called s
fetched s (Err Failed) = record (called s) { faults = next_count s.faults }
fetched s (Err Missing) = called s
fetched s (Err NoMemory) = called s
