-- Laws that tie the runs of a pattern to its ways.
use Rattle.xd_meaning.specs.Bindings.{variables_of, first_bindings}
use Rattle.std.specs.Prelude.{◌≡◌, ℕ, cond, ◌↔◌, List, [], ◌∷◌, Option, Some, None, map, option_map}
use Rattle.xd_doc.specs.Document.{Document}
use Rattle.xd_doc.specs.Runs.{held}
use Rattle.xd_doc.specs.Members.{IsOneOf}
use Rattle.xd_syntax.specs.Words.{has_word}
use Rattle.xd_syntax.specs.Tree.{Tree, Definitions, occurrences}
use Rattle.xd_laws.specs.Laws.{bare}
use Rattle.xd_syntax.specs.Fits.{Fits}
use Rattle.xd_syntax.specs.Placed.{PlacedTree, unplaced}
use Rattle.xd_syntax.specs.Proper.{IsProperProgram}
use Rattle.xd_syntax.specs.Program.{ProgramTree, names_of}
use Rattle.xd_syntax.specs.NameFaults.{pattern_faults}
use Rattle.xd_syntax.specs.Ways.{Way, IsWholeWay}
use Rattle.xd_laws.specs.Guarded.{Guarded}
use Rattle.xd_meaning.specs.Meaning.{looked_up}
use Rattle.xd_pattern_runs.specs.Runs.{MarkedRun, runs, start, trace}
use Rattle.xd_pattern_runs.specs.Linear.{BindNothing, IsLinear, given}

-- the types of a proper program bind nothing
abbrev pub NamesBindNothing : Type 0
NamesBindNothing = (P : ProgramTree) → IsProperProgram P → BindNothing (names_of P)

-- a pattern without faults of names is linear
abbrev pub NoFaultIsLinear : Type 0
NoFaultIsLinear = (known : List (List ℕ)) (P : PlacedTree) → pattern_faults known P ≡ [] → IsLinear (unplaced P)

-- each of the variables is bound once, to the items that the run gives it, and nothing else is
-- bound
abbrev pub Agree : List (List ℕ) → Document → MarkedRun → List (List ℕ × Document) → Type 0
Agree xs d r bs = (x : List ℕ) → given x bs ≡ cond (has_word xs x) (held d (trace x r) ∷ []) []

-- a variable that is bound once is looked up as that, and has no other binding
abbrev pub GivenOnce : Type 0
GivenOnce = (x : List ℕ) (bs : List (List ℕ × Document)) (e : Document) → given x bs ≡ e ∷ [] →
    (looked_up bs x ≡ Some e) × ((f : Document) → IsOneOf (x, f) bs ↔ (f ≡ e))

-- and one that isn't bound is not found
abbrev pub GivenNever : Type 0
GivenNever = (x : List ℕ) (bs : List (List ℕ × Document)) → given x bs ≡ [] → (looked_up bs x ≡ None) × ((f : Document) → IsOneOf (x, f) bs → ⊥)

-- what the run gives each of the variables
abbrev pub run_bindings : List (List ℕ) → Document → MarkedRun → List (List ℕ × Document)
run_bindings xs d r = map (λ x. (x, held d (trace x r))) xs

abbrev pub first_of : List MarkedRun → Option MarkedRun
first_of [] = None
first_of (r ∷ rs) = Some r

-- the first run over a document is the first match, and there is none exactly where there is no
-- match
abbrev pub FirstRunIsFirstMatch : Type 0
FirstRunIsFirstMatch = (E : Definitions) → Guarded E → BindNothing E → (P : Tree) → IsLinear P → (d : Document) →
    option_map (run_bindings (variables_of P) d) (first_of (runs E d (start P))) ≡ first_bindings E P d

-- each run is some whole way
abbrev pub RunsAreWays : Type 0
RunsAreWays = (E : Definitions) → Guarded E → BindNothing E → (P : Tree) → IsLinear P → (d : Document) (r : MarkedRun) →
    IsOneOf r (runs E d (start P)) → (w : Way) × IsWholeWay E P d w × Agree (occurrences P) d r w.bindings

-- each whole way is some run
abbrev pub WaysAreRuns : Type 0
WaysAreRuns = (E : Definitions) → Guarded E → BindNothing E → (P : Tree) → IsLinear P → (d : Document) (w : Way) →
    IsWholeWay E P d w → (r : MarkedRun) × IsOneOf r (runs E d (start P)) × Agree (occurrences P) d r w.bindings

-- there is a run over the documents that fit the pattern with its binders dropped, and over no
-- others
abbrev pub RunsDecide : Type 0
RunsDecide = (E : Definitions) → Guarded E → BindNothing E → (P : Tree) → IsLinear P → (d : Document) →
    ((r : MarkedRun) × IsOneOf r (runs E d (start P))) ↔ Fits E (bare P) d
