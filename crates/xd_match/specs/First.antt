-- The first run of a compiled pattern, and what it gives each variable.
use Rattle.std.specs.Prelude.{◌≡◌, ℕ, ◌<◌, List, [], map, length, slice_index_or, get_or, Option, Some, None}
use Rattle.xd_doc.specs.Document.{Document, empty}
use Rattle.xd_doc.specs.Stored.{document_at}
use Rattle.xd_doc.specs.StoredSeq.{BelongsTo}
use Rattle.xd_doc.specs.declared.store.Seq.{Seq}
use Rattle.xd_doc.specs.Runs.{held}
use Rattle.xd_auto.specs.declared.auto.State.{State}
use Rattle.xd_auto.specs.Automaton.{Automaton}
use Rattle.xd_auto.specs.Runs as Numbered
use Rattle.xd_pattern_runs.specs.Runs.{MarkedRun, trace}
use Rattle.xd_pattern_runs.specs.Laws.{first_of}
use Rattle.xd_patterns.specs.Marked.{Marking, with_marks}

-- the first run of the state over the document, with the variables of its moves
abbrev pub first_run : Automaton → Marking → Document → State → Option MarkedRun
first_run a k d s = first_of (map (with_marks a k s) (Numbered.runs a d s))

-- what a run gives a variable; nothing where there is no run
abbrev pub held_in : List ℕ → Document → Option MarkedRun → Document
held_in x d None = empty
held_in x d (Some r) = held d (trace x r)

-- what the first run gives a variable
abbrev pub first_held : Automaton → Marking → List ℕ → Document → State → Document
first_held a k x d s = held_in x d (first_run a k d s)

-- there is a first run, and these stand for what it gives each of the variables, in order
pub record AreHeld (a : Automaton) (k : Marking) (d : Document) (s : State) (vs : List (List ℕ)) (ds : List Document) (bound : List Seq) : Type 0 where
  pub run : (r : MarkedRun) × (first_run a k d s ≡ Some r)
  pub count : length bound ≡ length vs
  pub belong : (x : ℕ) (e : Seq) → x < length vs → BelongsTo ds (slice_index_or bound x e)
  pub bindings : (x : ℕ) (e : Seq) → x < length vs → document_at ds (slice_index_or bound x e) ≡ first_held a k (get_or vs x []) d s
