-- Types and patterns of a program as states of one automaton.
use Rattle.std.specs.Prelude.{◌≡◌, ◌↔◌, ℕ, true, List, map}
use Rattle.std.specs.List.{AllByRecursion}
use Rattle.xd_doc.specs.Document.{Document}
use Rattle.xd_auto.specs.declared.auto.State.{State}
use Rattle.xd_auto.specs.Automaton.{Automaton, IsState, accepts}
use Rattle.xd_syntax.specs.Words.{has_word}
use Rattle.xd_syntax.specs.Table.{Row}
use Rattle.xd_syntax.specs.Tree.{Definitions}
use Rattle.xd_syntax.specs.Fits.{Fits}
use Rattle.xd_syntax.specs.Types.{tree}
use Rattle.xd_syntax.specs.Patterns.{IsPattern, pattern_tree}
use Rattle.xd_syntax.specs.declared.types.TypeId.{TypeId}
use Rattle.xd_syntax.specs.declared.patterns.PatternId.{PatternId}
use Rattle.xd_meaning.specs.Bindings.{variables_of}
use Rattle.xd_meaning.specs.KeptFaults.{AllPaired}
use Rattle.xd_pattern_runs.specs.Linear.{IsLinear}
use Rattle.xd_patterns.specs.Marked.{Marking}
use Rattle.xd_patterns.specs.CompiledState.{IsCompiledState}
use Rattle.xd_patterns.specs.Held.{words_in, list_words, marking_in}
use Rattle.xd_patterns.specs.Sources.{names_in}
use Rattle.xd_patterns.specs.declared.compiled.CompiledProgram.{CompiledProgram}
use Rattle.xd_patterns.specs.declared.compiled.PatternVariables.{PatternVariables}
use Rattle.xd_patterns.specs.declared.sources.Sources.{Sources}

-- the id is that of a pattern in which each way binds each variable once
pub record IsLinearPattern (patterns : List Row) (id : PatternId) : Type 0 where
  pub there : IsPattern patterns id
  pub linear : IsLinear (pattern_tree patterns id)

-- the states of the types, and those of the patterns
abbrev pub type_states : CompiledProgram → List State
type_states m = m.types.items

abbrev pub pattern_states : CompiledProgram → List State
pattern_states m = m.patterns.items

-- the variables of each of some patterns
abbrev pub each_variables : List PatternVariables → List (List (List ℕ))
each_variables ps = map (λ (p : PatternVariables). p.words.keys) ps

-- the words are among these
abbrev pub AreWithin : List (List ℕ) → List (List ℕ) → Type 0
AreWithin all vs = (x : List ℕ) → has_word vs x ≡ true → has_word all x ≡ true

-- the variables of each pattern
abbrev pub pattern_variables : CompiledProgram → List (List (List ℕ))
pattern_variables m = each_variables m.variables.items

-- the variables of all of them, by their numbers
abbrev pub words_of_program : CompiledProgram → List (List ℕ)
words_of_program m = words_in m.moves

-- the variables of a list
abbrev pub list_variables : CompiledProgram → ℕ → List (List ℕ)
list_variables m l = list_words m.moves l

-- the variables that the items of each move belong to
abbrev pub marking_of_program : CompiledProgram → Marking
marking_of_program m = marking_in m.moves

-- the variables of patterns by their ids
abbrev pub variables_of_patterns : List Row → List PatternId → List (List (List ℕ))
variables_of_patterns patterns ids = map (λ id. variables_of (pattern_tree patterns id)) ids

-- the state is that of a pattern by its id
abbrev pub IsPatternState : Definitions → List Row → Automaton → Marking → PatternId → State → Type 0
IsPatternState E patterns a k id s = IsCompiledState E (pattern_tree patterns id) a k s

-- the state is that of a type, as of a pattern without variables
abbrev pub IsTypeState : Definitions → List Row → Automaton → Marking → TypeId → State → Type 0
IsTypeState E types a k id s = IsCompiledState E (tree types id) a k s

-- the states are those of these types and patterns, and the words are those of all variables
pub record AreCompiled (sources : Sources) (ids : List TypeId) (ps : List PatternId) (a : Automaton) (made : CompiledProgram) : Type 0 where
  pub types : AllPaired (IsTypeState (names_in sources) sources.types.now a (marking_of_program made)) ids (type_states made)
  pub patterns : AllPaired (IsPatternState (names_in sources) sources.patterns.now a (marking_of_program made)) ps (pattern_states made)
  pub variables : pattern_variables made ≡ variables_of_patterns sources.patterns.now ps
  pub words : AllByRecursion (AreWithin (words_of_program made)) (pattern_variables made)

-- the state accepts just what fits the type
pub record AcceptsType (E : Definitions) (types : List Row) (a : Automaton) (id : TypeId) (s : State) : Type 0 where
  pub belongs : IsState a s
  pub accepts : (d : Document) → (accepts a d s ≡ true) ↔ Fits E (tree types id) d
