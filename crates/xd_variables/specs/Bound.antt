-- The variables of a program's clauses, each with a state for what it may be.
use Rattle.std.specs.Prelude.{◌≡◌, ◌↔◌, true, Bool, List}
use Rattle.std.specs.List.{AllZip}
use Rattle.xd_doc.specs.Document.{Document, is_proper}
use Rattle.xd_auto.specs.Automaton.{Automaton, IsState, accepts}
use Rattle.xd_syntax.specs.May.{MayBind}
use Rattle.xd_syntax.specs.Order.{is_earlier}
use Rattle.xd_syntax.specs.Program.{ProgramTree}
use Rattle.xd_prefer.specs.Preferred.{Prefers}
use Rattle.xd_variables.specs.Seen.{AreSeenVariables, Gives, Reading, SeenVariable}
use Rattle.xd_variables.specs.declared.variables.Bound.{Bound}
use Rattle.xd_variables.specs.declared.variables.BoundVariable.{BoundVariable}
use Rattle.xd_variables.specs.declared.variables.Ways.{Ways}
use Rattle.xd_variables.specs.declared.variables.Ways.TheVariants.{First, Whole}

abbrev pub reading_of : Ways → Reading
reading_of Whole = MayBind
reading_of First = Prefers

-- the variable with its place, and a state that accepts exactly the proper documents that the
-- reading gives it
pub record IsBound (B : Reading) (P : ProgramTree) (a : Automaton) (v : SeenVariable) (x : BoundVariable) : Type 0 where
  pub place : x.place ≡ v.place
  pub word : x.word ≡ v.variable
  pub belongs : IsState a x.state
  pub exact : (d : Document) → is_proper d ≡ true → (accepts a d x.state ≡ true) ↔ Gives B P v d

-- one for each variable of the program's clauses, in order of place, as states of this automaton
pub record AreBoundIn (B : Reading) (P : ProgramTree) (a : Automaton) (xs : List BoundVariable) : Type 0 where
  pub variables : List SeenVariable
  pub seen : AreSeenVariables P variables
  pub each : AllZip (IsBound B P a) variables xs

abbrev pub AreBound : Reading → ProgramTree → Bound → Type 0
AreBound B P bound = AreBoundIn B P bound.auto bound.variables.items

abbrev pub bound_precedes : BoundVariable → BoundVariable → Bool
bound_precedes x y = is_earlier x.place y.place
