-- Which moves of points belong to a variable, and states that give a variable nothing, or all that
-- they take.
use Rattle.std.specs.Prelude.{nat_lt, ◌≡◌, ℕ, ◌&&◌, ◌||◌, Bool, true, false}
use Rattle.xd_doc.specs.Document.{Document}
use Rattle.xd_doc.specs.Runs.{Run, Trace, at_end, at_text, at_element, IsFree}
use Rattle.xd_auto.specs.declared.auto.State.{State}
use Rattle.xd_auto.specs.Automaton.{Automaton}
use Rattle.xd_auto.specs.Runs.{IsAcceptingRun}
use Rattle.xd_auto.specs.Traces.{Owned, trace_of}
use Rattle.xd_points.specs.declared.patterns.PatternStates.{PatternStates}
use Rattle.xd_points.specs.declared.table.PointTable.{PointTable}
use Rattle.xd_points.specs.Meaning.{may_leave_out}
use Rattle.xd_points.specs.Tables.{label_origin, pattern_of, point_count, text_origin}

-- those that stand for moves of the pattern's that do
abbrev pub point_moves : PointTable → Owned → Owned
point_moves t b = record {
  text = λ s n. nat_lt s.number (point_count t) && b.text (pattern_of t s) (text_origin t s n);
  element = λ s n. nat_lt s.number (point_count t) && b.element (pattern_of t s) (label_origin t s n);
}

-- the first move of the state on an element, or the first on a text
abbrev pub owns_first : Owned → State → Bool
owns_first b s = b.element s 0 || b.text s 0

-- all items belong to the variable, and nothing in their contents does
abbrev pub IsWhole : Trace → Type 0
IsWhole at_end = Unit {0}
IsWhole (at_text own r) = (own ≡ true) × IsWhole r
IsWhole (at_element own k r) = (own ≡ true) × IsFree k × IsWhole r

-- Runs from the state give the variable all that they take, where a first move belongs to it; and
-- else nothing.
pub record GivesAlike (a : Automaton) (b : Owned) (s : State) : Type 0 where
  pub all : owns_first b s ≡ true → (d : Document) (run : Run ℕ) → IsAcceptingRun a d s run → IsWhole (trace_of a b s run)
  pub none : owns_first b s ≡ false → (d : Document) (run : Run ℕ) → IsAcceptingRun a d s run → IsFree (trace_of a b s run)

-- each state that may be left out does so
abbrev pub LeavesOutAlike : PatternStates → Owned → Type 0
LeavesOutAlike p b = (s : State) → may_leave_out p s ≡ true → GivesAlike p.auto b s
