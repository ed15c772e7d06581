-- States of patterns in an automaton that grows.
use Rattle.xd_auto.specs.declared.auto.State.{State}
use Rattle.xd_auto.specs.Automaton.{Automaton, Extends, IsClosed, IsState}
use Rattle.xd_syntax.specs.Tree.{Tree, Definitions}
use Rattle.xd_patterns.specs.Marked.{Marking, IsCompiled}

-- the state is one of the automaton, and that of the pattern
pub record IsCompiledState (E : Definitions) (P : Tree) (a : Automaton) (k : Marking) (s : State) : Type 0 where
  pub belongs : IsState a s
  pub compiled : IsCompiled E P a k s

-- it stays that of the pattern, with the same marks, while the automaton extends
abbrev pub CompiledStatesStay : Type 0
CompiledStatesStay = (old new : Automaton) → IsClosed old → Extends old new →
    (E : Definitions) (P : Tree) (k : Marking) (s : State) → IsCompiledState E P old k s → IsCompiledState E P new k s
