-- Automata whose moves belong to variables, and what the state of a pattern is.
use Rattle.std.specs.Prelude.{◌≡◌, ℕ, true, ◌↔◌, List, [], ◌∷◌, map, get_or, option_map}
use Rattle.xd_doc.specs.Document.{Document}
use Rattle.xd_doc.specs.Runs.{Run, IsTogether}
use Rattle.xd_auto.specs.declared.auto.State.{State}
use Rattle.xd_auto.specs.declared.auto.LabelMove.{LabelMove}
use Rattle.xd_auto.specs.declared.auto.TextMove.{TextMove}
use Rattle.xd_auto.specs.Automaton.{Automaton, accepts, moves_at}
use Rattle.xd_auto.specs.Runs as Numbered
use Rattle.xd_auto.specs.Runs.{IsAcceptingRun}
use Rattle.xd_auto.specs.Traces.{OfMoves, Owned, map_moves, trace_of}
use Rattle.xd_auto.specs.declared.kind.MoveKind.{MoveKind}
use Rattle.xd_auto.specs.declared.kind.MoveKind.TheVariants as M
use Rattle.xd_meaning.specs.Bindings.{variables_of, first_bindings}
use Rattle.xd_syntax.specs.Words.{has_word}
use Rattle.xd_syntax.specs.Tree.{Tree, Definitions, occurrences}
use Rattle.xd_syntax.specs.Ways.{Way, IsWholeWay, Takes}
use Rattle.xd_pattern_runs.specs.Runs as Marked
use Rattle.xd_pattern_runs.specs.Runs.{ElementMove, Moves, MarkedRun, trace}
use Rattle.xd_pattern_runs.specs.Laws.{Agree, run_bindings, first_of}

-- the variables that the items of each move of a state belong to, by the number of the move
pub record MoveMarks : Type 0 where
  pub texts : List (List (List ℕ))
  pub labels : List (List (List ℕ))

abbrev pub Marking : Type 0
Marking = State → MoveMarks

abbrev pub marked_text : List (List ℕ) → TextMove → Marked.TextMove State
marked_text xs m = record { words = m.words; marks = xs; rest = m.rest }

abbrev pub marked_label : List (List ℕ) → LabelMove → ElementMove State
marked_label xs m = record { class = m.class; content = m.content; marks = xs; rest = m.rest }

-- moves, each with its marks
abbrev pub with_each : {A B : Type 0} → (List (List ℕ) → A → B) → List (List (List ℕ)) → List A → List B
with_each f ms [] = []
with_each f [] (m ∷ moves) = f [] m ∷ with_each f [] moves
with_each f (xs ∷ ms) (m ∷ moves) = f xs m ∷ with_each f ms moves

-- the moves of a state, each with its marks
abbrev pub marked_moves : Automaton → Marking → State → Moves State
marked_moves a k s = record {
  last = (moves_at a s).last;
  texts = with_each marked_text (k s).texts (moves_at a s).texts;
  elements = with_each marked_label (k s).labels (moves_at a s).labels;
}

-- the marks of the move of this kind and number
abbrev pub marks_at : MoveMarks → MoveKind → ℕ → List (List ℕ)
marks_at k M.Label n = get_or k.labels n []
marks_at k M.Text n = get_or k.texts n []

abbrev pub marks_by : Marking → OfMoves (List (List ℕ))
marks_by k = record { text = λ s n. marks_at (k s) M.Text n; element = λ s n. marks_at (k s) M.Label n }

-- the moves that belong to a variable
abbrev pub moves_of : Marking → List ℕ → Owned
moves_of k x = map_moves (λ xs. has_word xs x) (marks_by k)

-- the run from the state, with the marks of its moves in place of their numbers
abbrev pub with_marks : Automaton → Marking → State → Run ℕ → MarkedRun
with_marks a k s run = trace_of a (marks_by k) s run

-- The state is that of the pattern: it accepts what the pattern takes; its accepting runs are the
-- whole ways, in what they give the variables; in a run the items of one variable stand together;
-- and the first run is the first match.
pub record IsCompiled (E : Definitions) (P : Tree) (a : Automaton) (k : Marking) (s : State) : Type 0 where
  pub accepts : (d : Document) → (accepts a d s ≡ true) ↔ Takes E P d
  pub ways : (d : Document) (run : Run ℕ) → IsAcceptingRun a d s run → (w : Way) × IsWholeWay E P d w × Agree (occurrences P) d (with_marks a k s run) w.bindings
  pub runs : (d : Document) (w : Way) → IsWholeWay E P d w → (run : Run ℕ) × IsAcceptingRun a d s run × Agree (occurrences P) d (with_marks a k s run) w.bindings
  pub together : (d : Document) (run : Run ℕ) → IsAcceptingRun a d s run → (x : List ℕ) → IsTogether (trace x (with_marks a k s run))
  pub first_match : (d : Document) → option_map (run_bindings (variables_of P) d) (first_of (map (with_marks a k s) (Numbered.runs a d s))) ≡ first_bindings E P d
