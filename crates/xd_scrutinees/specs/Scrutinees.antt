-- The scrutinees of a program.
use Rattle.std.specs.Prelude.{◌≡◌, Bool, List}
use Rattle.std.specs.List.{AllZip}
use Rattle.xd_auto.specs.Automaton.{Automaton, IsState, accepts}
use Rattle.xd_doc.specs.Document.{Document}
use Rattle.xd_syntax.specs.Expression.{Matched}
use Rattle.xd_syntax.specs.Kept.{AddsTypes, ProgramTable, program_tree}
use Rattle.xd_syntax.specs.Program.{names_of}
use Rattle.xd_syntax.specs.Matches.{AreMatches, SeenMatch}
use Rattle.xd_syntax.specs.Order.{is_earlier}
use Rattle.xd_syntax.specs.May.{May}
use Rattle.xd_least.specs.Least.{Knows}
use Rattle.xd_patterns.specs.Compiler.{Serves}
use Rattle.xd_clauses.specs.Compiled.{ArePatterns}
use Rattle.xd_check_steps.specs.Clauses.{ServesOn}
use Rattle.xd_check_steps.specs.Found.{IsMet}
use Rattle.xd_check_steps.specs.States.{AcceptsJust}
use Rattle.xd_check_steps.specs.Walkable.{expr_at}
use Rattle.xd_check_steps.specs.declared.findings.MetMatch.{MetMatch}
use Rattle.xd_scrutinees.specs.declared.matches.MatchStates.{MatchStates}
use Rattle.xd_scrutinees.specs.declared.matches.Scrutinee.{Scrutinee}

-- the match itself, and a state that accepts exactly the proper documents that its scrutinee may be
-- in its scope
pub record IsScrutineeOf (p : ProgramTable) (m : SeenMatch) (x : Scrutinee) : Type 0 where
  pub match : expr_at p x.expr.at ≡ Matched m.place m.scrutinee m.clauses
  pub belongs : IsState x.auto x.state
  pub exact : AcceptsJust x.auto x.state (May (program_tree p) m.scope m.scrutinee)

-- one for each match of the program that doesn't stand inside the body of a clause that isn't live,
-- in order of place
pub record AreScrutinees (p : ProgramTable) (xs : List Scrutinee) : Type 0 where
  pub matches : List SeenMatch
  pub seen : AreMatches (program_tree p) matches
  pub each : AllZip (IsScrutineeOf p) matches xs

-- The same matches, in an automaton of which something is known; the compiler and the compiled
-- patterns serve the program, to which types were added.
pub record AreMatchStates (p : ProgramTable) (a : Automaton) (met : MatchStates) : Type 0 where
  pub adds : AddsTypes p met.sound
  pub same : program_tree met.sound ≡ program_tree p
  pub serves : Serves met.sound met.compiler
  pub patterns : ArePatterns (names_of (program_tree met.sound)) met.sound.patterns met.patterns
  pub points : ServesOn a met.patterns
  pub known : Knows a met.store met.inhabitants
  pub found : List SeenMatch
  pub seen : AreMatches (program_tree p) found
  pub each : AllZip (IsMet met.sound a) found met.matches.items

-- the same match, with a state of an automaton of its own that accepts the same
pub record StandsAlone (a : Automaton) (x : MetMatch) (y : Scrutinee) : Type 0 where
  pub match : y.expr ≡ x.expr
  pub belongs : IsState y.auto y.state
  pub same : (d : Document) → accepts y.auto d y.state ≡ accepts a d x.state

abbrev pub met_precedes : MetMatch → MetMatch → Bool
met_precedes x y = is_earlier x.place y.place
