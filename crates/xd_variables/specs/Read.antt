-- What reading clauses adds.
use Rattle.std.specs.Prelude.{◌≡◌, Bool, true, false, List, [], ◌∷◌, ◌++◌}
use Rattle.std.specs.List.{AllZip}
use Rattle.xd_base.specs.declared.Place.{Place}
use Rattle.xd_auto.specs.Automaton.{Automaton, IsState}
use Rattle.xd_syntax.specs.CheckFaults.{IsLiveIn}
use Rattle.xd_syntax.specs.Expression.{Expression}
use Rattle.xd_syntax.specs.Kept.{ProgramTable, program_tree}
use Rattle.xd_syntax.specs.May.{Scope}
use Rattle.xd_syntax.specs.Placed.{PlacedTree}
use Rattle.xd_syntax.specs.Program.{ProgramTree, names_of}
use Rattle.xd_bind.specs.declared.tracks.Given.{Given}
use Rattle.xd_patterns.specs.Compiler.{Serves}
use Rattle.xd_clauses.specs.Compiled.{ArePatterns}
use Rattle.xd_check_steps.specs.Walkable.{CanBeWalked}
use Rattle.xd_check_steps.specs.Clauses.{ServesOn}
use Rattle.xd_check_steps.specs.declared.findings.MetMatch.{MetMatch}
use Rattle.xd_variables.specs.Bound.{IsBound}
use Rattle.xd_variables.specs.Seen.{Reading, SeenVariable, variables_of_clause}
use Rattle.xd_variables.specs.declared.reader.Reader.{Reader}
use Rattle.xd_variables.specs.declared.variables.BoundVariable.{BoundVariable}

-- these variables were added, each with a state
pub record AddsVariables (B : Reading) (P : ProgramTree) (a : Automaton) (vs : List SeenVariable) (old new : List BoundVariable) : Type 0 where
  pub more : List BoundVariable
  pub grown : new ≡ old ++ more
  pub each : AllZip (IsBound B P a) vs more

-- what clauses are read with serves the program, and states of the automaton
pub record IsReader (r : Reader) (a : Automaton) : Type 0 where
  pub serves : Serves r.sound r.compiler
  pub patterns : ArePatterns (names_of (program_tree r.sound)) r.sound.patterns r.patterns
  pub points : ServesOn a r.patterns

-- the match's node is there, its patterns are linear, and the scrutinee has a state
pub record CanBeRead (p : ProgramTable) (a : Automaton) (x : MetMatch) : Type 0 where
  pub walkable : CanBeWalked p x.expr.at
  pub belongs : IsState a x.state

-- whether the clause is live
abbrev pub TellsLive : ProgramTree → Scope → Expression → List PlacedTree → PlacedTree → Bool → Type 0
TellsLive P S e earlier Q true = IsLiveIn P S e earlier Q
TellsLive P S e earlier Q false = IsLiveIn P S e earlier Q → ⊥

-- the variables of a clause were added, and it is told whether the clause is live
pub record IsClauseRead (B : Reading) (P : ProgramTree) (S : Scope) (e : Expression) (earlier : List PlacedTree) (Q : PlacedTree) (a : Automaton) (old new : List BoundVariable) (live : Bool) : Type 0 where
  pub tells : TellsLive P S e earlier Q live
  pub adds : AddsVariables B P a (variables_of_clause S e earlier Q) old new

-- variables with their places and states
abbrev pub placed_givens : List Place → List Given → List BoundVariable
placed_givens [] gs = []
placed_givens (q ∷ qs) [] = []
placed_givens (q ∷ qs) (g ∷ gs) = record { place = q; word = g.variable; state = g.state } ∷ placed_givens qs gs
