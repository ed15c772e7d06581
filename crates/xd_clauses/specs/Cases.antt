-- Patterns by their ids, and what variables are given, in automata of their own.
use Rattle.std.specs.Prelude.{◌≡◌, ℕ, false, List, map}
use Rattle.xd_doc.specs.Document.{Document}
use Rattle.xd_auto.specs.Automaton.{Automaton, IsState, accepts}
use Rattle.xd_syntax.specs.Table.{Row}
use Rattle.xd_syntax.specs.Placed.{PlacedTree}
use Rattle.xd_syntax.specs.PlacedTable.{placed_at}
use Rattle.xd_syntax.specs.declared.patterns.PatternId.{PatternId}
use Rattle.xd_bind.specs.declared.tracks.Binding.{Binding}
use Rattle.xd_bind.specs.declared.tracks.Given.{Given}

abbrev pub placed_pattern : List Row → PatternId → PlacedTree
placed_pattern patterns id = placed_at patterns id.at

abbrev pub placed_patterns : List Row → List PatternId → List PlacedTree
placed_patterns patterns ids = map (placed_pattern patterns) ids

-- a state for the variable that accepts nothing
pub record IsGivenNothing (a : Automaton) (x : List ℕ) (g : Given) : Type 0 where
  pub variable : g.variable ≡ x
  pub belongs : IsState a g.state
  pub nothing : (d : Document) → accepts a d g.state ≡ false

-- a state of an automaton of its own for the variable, which accepts the same
pub record HasOwnAutomaton (a : Automaton) (g : Given) (b : Binding) : Type 0 where
  pub variable : b.variable ≡ g.variable
  pub belongs : IsState b.auto b.state
  pub same : (d : Document) → accepts b.auto d b.state ≡ accepts a d g.state
