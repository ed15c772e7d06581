-- A pattern with its answers, and the patterns of a program that are compiled.
use Rattle.std.specs.Prelude.{◌≡◌, ℕ, ◌<◌, List, length, slice_index_or, option_map}
use Rattle.xd_doc.specs.Document.{Document}
use Rattle.xd_auto.specs.Kept.{AreRight}
use Rattle.xd_syntax.specs.Tree.{Tree, Definitions}
use Rattle.xd_meaning.specs.Bindings.{variables_of, first_bindings}
use Rattle.xd_pattern_runs.specs.Laws.{run_bindings}
use Rattle.xd_patterns.specs.Held.{marking_of, variables_in}
use Rattle.xd_match.specs.First.{first_run}
use Rattle.xd_match.specs.Compiled.{PatternStands}
use Rattle.xd_match.specs.declared.matcher.Matcher.{Matcher}

-- what is known of its automaton, and its answers about the store's documents, are right
pub record Stands (ds : List Document) (m : Matcher) : Type 0 where
  pub compiled : PatternStands m.compiled
  pub right : AreRight m.compiled.auto ds m.answers

-- its first runs are the first matches of the pattern
pub record IsOfPattern (E : Definitions) (P : Tree) (m : Matcher) : Type 0 where
  pub variables : variables_in m.compiled.marked ≡ variables_of P
  pub first_match : (d : Document) → option_map (run_bindings (variables_of P) d) (first_run m.compiled.auto (marking_of m.compiled.marked) d m.compiled.marked.start) ≡ first_bindings E P d

abbrev pub AllStand : List Document → List Matcher → Type 0
AllStand ds ms = (i : ℕ) (e : Matcher) → i < length ms → Stands ds (slice_index_or ms i e)

-- the matcher of this number is there, and is that of the pattern
pub record HasMatcher (E : Definitions) (P : Tree) (ms : List Matcher) (i : ℕ) : Type 0 where
  pub there : i < length ms
  pub of_pattern : (e : Matcher) → IsOfPattern E P (slice_index_or ms i e)
