-- Patterns of a program that are compiled together.
use Rattle.std.specs.Prelude.{◌≡◌, ℕ, ◌<◌, ◌&&◌, nat_lt, Bool, true, List, [], Some, length, get_or}
use Rattle.std.specs.List.{AllByRecursion, slice_get}
use Rattle.xd_doc.specs.Document.{Document}
use Rattle.xd_auto.specs.declared.auto.State.{State}
use Rattle.xd_auto.specs.Automaton.{Automaton}
use Rattle.xd_auto.specs.declared.kind.MoveKind.TheVariants.{Label, Text}
use Rattle.xd_auto.specs.Traces.{Owned}
use Rattle.xd_auto.specs.Universal.{IsUniversal}
use Rattle.xd_bind.specs.declared.tracks.Given.{Given}
use Rattle.xd_given.specs.Given.{AreGivensFor, IsGivenAloneBy}
use Rattle.xd_given.specs.Owning.{GivesAlike}
use Rattle.xd_meaning.specs.KeptFaults.{AllPaired}
use Rattle.xd_syntax.specs.Words.{has_word}
use Rattle.xd_syntax.specs.Table.{Row}
use Rattle.xd_syntax.specs.Tree.{Definitions, Tree}
use Rattle.xd_syntax.specs.Patterns.{pattern_tree}
use Rattle.xd_syntax.specs.declared.patterns.PatternId.{PatternId}
use Rattle.xd_patterns.specs.CompiledProgram.{AreWithin, IsPatternState, marking_of_program, pattern_states, pattern_variables, variables_of_patterns, words_of_program}
use Rattle.xd_patterns.specs.Marked.{marks_at}
use Rattle.xd_patterns.specs.declared.compiled.CompiledProgram.{CompiledProgram}
use Rattle.xd_points.specs.Meaning.{may_leave_out}
use Rattle.xd_clauses.specs.declared.compiled.CompiledPatterns.{CompiledPatterns}

-- the moves that belong to a variable by its number among some words
abbrev pub word_moves : CompiledProgram → List (List ℕ) → ℕ → Owned
word_moves m ws x = record {
  text = λ s n. nat_lt x (length ws) && has_word (marks_at (marking_of_program m s) Text n) (get_or ws x []);
  element = λ s n. nat_lt x (length ws) && has_word (marks_at (marking_of_program m s) Label n) (get_or ws x []);
}

-- the variables of each pattern are among the words
abbrev pub AreWordsKnown : CompiledProgram → Type 0
AreWordsKnown m = AllByRecursion (AreWithin (words_of_program m)) (pattern_variables m)

-- each of these states gives each variable nothing, or all that it takes
abbrev pub GiveAlike : Automaton → CompiledProgram → (State → Bool) → Type 0
GiveAlike a m set = (x : ℕ) → x < length (words_of_program m) → (s : State) → set s ≡ true → GivesAlike a (word_moves m (words_of_program m) x) s

-- so does each state that may be left out
abbrev pub LeavesOut : CompiledPatterns → Type 0
LeavesOut m = GiveAlike m.states.auto m.compiled (may_leave_out m.states)

-- the state of the pattern of a number, and its variables
abbrev pub state_of : CompiledPatterns → ℕ → State
state_of m n = get_or (pattern_states m.compiled) n (record { number = 0 })

abbrev pub variables_at : CompiledPatterns → ℕ → List (List ℕ)
variables_at m n = get_or (pattern_variables m.compiled) n []

-- the states are those of these patterns, in their order
pub record ArePatterns (E : Definitions) (rows : List Row) (m : CompiledPatterns) : Type 0 where
  pub universal : IsUniversal m.states.auto m.all
  pub patterns : AllPaired (IsPatternState E rows m.states.auto (marking_of_program m.compiled)) m.ids.items (pattern_states m.compiled)
  pub variables : pattern_variables m.compiled ≡ variables_of_patterns rows m.ids.items
  pub words : AreWordsKnown m.compiled
  pub alike : LeavesOut m

-- the pattern of this number is this one
pub record IsNumbered (E : Definitions) (P : Tree) (m : CompiledPatterns) (n : ℕ) : Type 0 where
  pub rows : List Row
  pub id : PatternId
  pub patterns : ArePatterns E rows m
  pub number : slice_get m.ids.items n ≡ Some id
  pub is : pattern_tree rows id ≡ P

-- the pattern of this number is one
pub record IsSomePattern (m : CompiledPatterns) (n : ℕ) : Type 0 where
  pub names : Definitions
  pub tree : Tree
  pub numbered : IsNumbered names tree m n

-- runs of the pattern's state, all runs or the first alone, give the owner of these moves this
-- document, on one that another state accepts
abbrev pub RunsGive : Bool → Automaton → CompiledPatterns → ℕ → State → Owned → Document → Type 0
RunsGive first a m n arriving = IsGivenAloneBy first a m.states arriving (state_of m n) []

-- for each variable of the pattern a state that accepts exactly what runs give it
abbrev pub AreRunsGivens : Bool → Automaton → CompiledPatterns → ℕ → State → Automaton → List Given → Type 0
AreRunsGivens first a m n arriving = AreGivensFor (RunsGive first a m n arriving) (word_moves m.compiled (variables_at m n)) (variables_at m n)
