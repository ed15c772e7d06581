-- The test of a program's input.
use Rattle.std.specs.Prelude.{Option, Some, None}
use Rattle.xd_auto.specs.Automaton.{Automaton}
use Rattle.xd_auto.specs.declared.auto.State.{State}
use Rattle.xd_syntax.specs.Tree.{Tree, Definitions}
use Rattle.xd_syntax.specs.Program.{ProgramTree, names_of}
use Rattle.xd_command_documents.specs.FitsByState.{IsAcceptor}
use Rattle.xd_command_programs.specs.Run.{input_type}

abbrev pub AcceptsInput : Definitions → Option Tree → Option (Automaton × State) → Type 0
AcceptsInput E None None = Unit {0}
AcceptsInput E (Some T) (Some made) = IsAcceptor E T made.0 made.1
AcceptsInput E None (Some made) = ⊥
AcceptsInput E (Some T) None = ⊥

-- a state that accepts exactly what fits the input type, where there is one
abbrev pub IsInputTest : ProgramTree → Option (Automaton × State) → Type 0
IsInputTest P made = AcceptsInput (names_of P) (input_type P) made
