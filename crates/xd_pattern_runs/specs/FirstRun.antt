-- Which documents a state takes, and its first run, found move by move.
use Rattle.xd_pattern_runs.specs.Laws.{first_of}
use Rattle.std.specs.Prelude.{◌≡◌, ℕ, Bool, true, ◌&&◌, cond, ◌↔◌, List, [], ◌∷◌, Option, Some, None}
use Rattle.std.specs.List.{list_any}
use Rattle.xd_doc.specs.Document.{Document, empty, text, element}
use Rattle.xd_doc.specs.Classes.{class_has}
use Rattle.xd_doc.specs.Runs.{at_end, at_text, at_element}
use Rattle.xd_doc.specs.Members.{IsOneOf}
use Rattle.xd_pattern_runs.specs.Runs.{TextMove, ElementMove, Moves, MarkedRun, runs_by}

-- whether some run from the state takes the document
abbrev pub accepts_by : {S : Type 0} → (S → Moves S) → Document → S → Bool
accepts_by M empty s = (M s).last
accepts_by M (text t d) s = list_any (λ m. class_has m.words t && accepts_by M d m.rest) (M s).texts
accepts_by M (element l c d) s = list_any (λ m. class_has m.class l && (accepts_by M c m.content && accepts_by M d m.rest)) (M s).elements

abbrev pub text_then_run : List (List ℕ) → Option MarkedRun → Option MarkedRun
text_then_run xs None = None
text_then_run xs (Some r) = Some (at_text xs r)

abbrev pub element_then_run : List (List ℕ) → Option MarkedRun → Option MarkedRun → Option MarkedRun
element_then_run xs None r = None
element_then_run xs (Some k) None = None
element_then_run xs (Some k) (Some r) = Some (at_element xs k r)

-- by the first of the moves from which the rest is accepted, where A says so and F gives first runs
abbrev pub first_over_text : {S : Type 0} → (S → Bool) → (S → Option MarkedRun) → List ℕ → List (TextMove S) → Option MarkedRun
first_over_text A F t [] = None
first_over_text A F t (m ∷ ms) = cond (class_has m.words t && A m.rest) (text_then_run m.marks (F m.rest)) (first_over_text A F t ms)

-- by the first of the moves by which the content and the rest are accepted, where C and G do the
-- same for the content
abbrev pub first_over_element : {S : Type 0} → (S → Bool) → (S → Option MarkedRun) → (S → Bool) → (S → Option MarkedRun) → List ℕ → List (ElementMove S) → Option MarkedRun
first_over_element C G A F l [] = None
first_over_element C G A F l (m ∷ ms) =
    cond (class_has m.class l && (C m.content && A m.rest)) (element_then_run m.marks (G m.content) (F m.rest)) (first_over_element C G A F l ms)

-- at each item the first move that can succeed
abbrev pub first_by : {S : Type 0} → (S → Moves S) → Document → S → Option MarkedRun
first_by M empty s = cond (M s).last (Some at_end) None
first_by M (text t d) s = first_over_text (accepts_by M d) (first_by M d) t (M s).texts
first_by M (element l c d) s = first_over_element (accepts_by M c) (first_by M c) (accepts_by M d) (first_by M d) l (M s).elements

-- a document is accepted exactly where there is a run
abbrev pub AcceptsByRuns : Type 0
AcceptsByRuns = (M : ℕ → Moves ℕ) (d : Document) (s : ℕ) → (accepts_by M d s ≡ true) ↔ ((r : MarkedRun) × IsOneOf r (runs_by M d s))

-- the run that takes the first move that can succeed is the first
abbrev pub FirstMovesFirst : Type 0
FirstMovesFirst = (M : ℕ → Moves ℕ) (d : Document) (s : ℕ) → first_by M d s ≡ first_of (runs_by M d s)
