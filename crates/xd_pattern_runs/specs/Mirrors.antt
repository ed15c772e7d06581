-- Automata whose states stand for continuations, and what their runs are.
use Rattle.xd_meaning.specs.Bindings.{variables_of, first_bindings}
use Rattle.std.specs.Prelude.{◌≡◌, ℕ, ◌↔◌, List, Option, Some, option_map}
use Rattle.std.specs.List.{AllZip}
use Rattle.xd_doc.specs.Document.{Document}
use Rattle.xd_doc.specs.Runs.{IsTogether}
use Rattle.xd_doc.specs.Members.{IsOneOf}
use Rattle.xd_syntax.specs.Tree.{Tree, Definitions, occurrences}
use Rattle.xd_laws.specs.Laws.{bare}
use Rattle.xd_syntax.specs.Fits.{Fits}
use Rattle.xd_syntax.specs.Ways.{Way, IsWholeWay}
use Rattle.xd_laws.specs.Guarded.{Guarded}
use Rattle.xd_pattern_runs.specs.Alike.{Alike}
use Rattle.xd_pattern_runs.specs.Runs.{Continuation, Choice, start, TextMove, ElementMove, Moves, choices, has_stop, texts_of, elements_of, MarkedRun, runs_by, trace}
use Rattle.xd_pattern_runs.specs.Linear.{BindNothing, IsLinear}
use Rattle.xd_pattern_runs.specs.Laws.{Agree, run_bindings, first_of}

-- what stands ahead of a state, for the states of a pattern
abbrev pub Ahead : Type 0 → Type 0
Ahead S = S → Option Continuation

pub record SameText {S : Type 0} (A : Ahead S) (m : TextMove S) (n : TextMove Continuation) : Type 0 where
  pub words : m.words ≡ n.words
  pub marks : m.marks ≡ n.marks
  pub rest : A m.rest ≡ Some n.rest

pub record SameElement {S : Type 0} (A : Ahead S) (m : ElementMove S) (n : ElementMove Continuation) : Type 0 where
  pub class : m.class ≡ n.class
  pub content : A m.content ≡ Some n.content
  pub marks : m.marks ≡ n.marks
  pub rest : A m.rest ≡ Some n.rest

-- the moves are those of these choices, in their order
pub record AreMovesOf {S : Type 0} (A : Ahead S) (moves : Moves S) (cs : List Choice) : Type 0 where
  pub last : moves.last ≡ has_stop cs
  pub texts : AllZip (SameText A) moves.texts (texts_of cs)
  pub elements : AllZip (SameElement A) moves.elements (elements_of cs)

-- each state of a pattern has the moves of what stands ahead of it, where repeats of a choice may
-- be left out
pub record Mirrors {S : Type 0} (E : Definitions) (M : S → Moves S) (A : Ahead S) : Type 0 where
  pub found : (s : S) (K : Continuation) → A s ≡ Some K → (cs : List Choice) × Alike cs (choices E K) × AreMovesOf A (M s) cs

-- the runs from a state are those of a pattern
pub record AreRunsOf {S : Type 0} (E : Definitions) (P : Tree) (M : S → Moves S) (s : S) : Type 0 where
  pub first_match : (d : Document) → option_map (run_bindings (variables_of P) d) (first_of (runs_by M d s)) ≡ first_bindings E P d
  pub ways : (d : Document) (r : MarkedRun) → IsOneOf r (runs_by M d s) → (w : Way) × IsWholeWay E P d w × Agree (occurrences P) d r w.bindings
  pub runs : (d : Document) (w : Way) → IsWholeWay E P d w → (r : MarkedRun) × IsOneOf r (runs_by M d s) × Agree (occurrences P) d r w.bindings
  pub fits : (d : Document) → ((r : MarkedRun) × IsOneOf r (runs_by M d s)) ↔ Fits E (bare P) d
  pub together : (d : Document) (r : MarkedRun) → IsOneOf r (runs_by M d s) → (x : List ℕ) → IsTogether (trace x r)

-- a state that mirrors a linear pattern has its runs
abbrev pub MirrorsRun : Type 0
MirrorsRun = (E : Definitions) → Guarded E → BindNothing E → (P : Tree) → IsLinear P → (M : ℕ → Moves ℕ) (A : Ahead ℕ) → Mirrors E M A →
    (s : ℕ) → A s ≡ Some (start P) → AreRunsOf E P M s
