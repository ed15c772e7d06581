-- All runs of a state over a document, or its first run alone.
use Rattle.std.specs.Prelude.{◌≡◌, ◌↔◌, ℕ, Bool, true, false, cond, Some, take, slice_get}
use Rattle.std.specs.List.{list_any}
use Rattle.std.specs.Option.{IsSomeAnd}
use Rattle.xd_doc.specs.Document.{Document, empty, text, element}
use Rattle.xd_doc.specs.Classes.{class_has}
use Rattle.xd_doc.specs.Runs.{Run, at_end, at_text, at_element}
use Rattle.xd_auto.specs.declared.auto.State.{State}
use Rattle.xd_auto.specs.Automaton.{Automaton, accepts, moves_at, takes_word, takes_element as takes_over}
use Rattle.xd_auto.specs.Runs.{IsAcceptingRun, runs}

-- the run is the first of the state's runs over the document
abbrev pub IsFirstRun : Automaton → Document → State → Run ℕ → Type 0
IsFirstRun a d s run = slice_get (runs a d s) 0 ≡ Some run

-- before which number the moves must fail, where each must that is more preferred, or none must
abbrev pub place_before : Bool → ℕ → ℕ
place_before first n = cond first n 0

-- at each item, at every depth, the run goes by a move that leads over the document; and with
-- `first` no move before it does
abbrev pub IsRunBy : Bool → Automaton → Document → State → Run ℕ → Type 0
IsRunBy first a empty s at_end = (moves_at a s).last ≡ true
IsRunBy first a empty s (at_text n r) = ⊥
IsRunBy first a empty s (at_element n c r) = ⊥
IsRunBy first a (text t rest) s at_end = ⊥
IsRunBy first a (text t rest) s (at_text n r) =
    IsSomeAnd (slice_get (moves_at a s).texts n)
    (λ m. (class_has m.words t ≡ true) × (list_any (takes_word a t rest) (take (place_before first n) (moves_at a s).texts) ≡ false) × IsRunBy first a rest m.rest r)
IsRunBy first a (text t rest) s (at_element n c r) = ⊥
IsRunBy first a (element l content rest) s at_end = ⊥
IsRunBy first a (element l content rest) s (at_text n r) = ⊥
IsRunBy first a (element l content rest) s (at_element n c r) =
    IsSomeAnd (slice_get (moves_at a s).labels n)
    (λ m. (class_has m.class l ≡ true) × (list_any (takes_over a l content rest) (take (place_before first n) (moves_at a s).labels) ≡ false) × IsRunBy first a content m.content c × IsRunBy first a rest m.rest r)

-- no move before the run's own leads over the document
abbrev pub IsPreferred : Automaton → Document → State → Run ℕ → Type 0
IsPreferred a d s run = IsRunBy true a d s run

-- a run is the first exactly where at each item no move before its own leads over the document
abbrev pub FirstRunsArePreferred : Type 0
FirstRunsArePreferred = (a : Automaton) (s : State) (d : Document) (run : Run ℕ) → IsFirstRun a d s run ↔ IsPreferred a d s run

-- without `first` these are just the accepting runs
abbrev pub AcceptingRunsAreAll : Type 0
AcceptingRunsAreAll = (a : Automaton) (s : State) (d : Document) (run : Run ℕ) → IsAcceptingRun a d s run ↔ IsRunBy false a d s run

-- of each kind the state has one exactly where it accepts the document
abbrev pub AcceptsByEachKind : Type 0
AcceptsByEachKind = (first : Bool) (a : Automaton) (s : State) (d : Document) → (accepts a d s ≡ true) ↔ ((run : Run ℕ) × IsRunBy first a d s run)
