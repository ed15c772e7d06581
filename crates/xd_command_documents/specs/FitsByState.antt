-- What `fits` answers, by a state that accepts what fits the type.
use Rattle.std.specs.Prelude.{◌≡◌, ◌↔◌, ℕ, cond, true, List}
use Rattle.xd_auto.specs.Automaton.{Automaton, accepts, IsState}
use Rattle.xd_auto.specs.declared.auto.State.{State}
use Rattle.xd_doc.specs.Document.{Document}
use Rattle.xd_syntax.specs.Tree.{Tree, Definitions}
use Rattle.xd_syntax.specs.Fits as types
use Rattle.xd_command_steps.specs.Output.{Output, yes, no}
use Rattle.xd_command_steps.specs.Step.{Step}
use Rattle.xd_command_steps.specs.Texts.{Holding}
use Rattle.xd_command_steps.specs.Documents.{EndsAtDocument, IsDocument}

-- the state accepts exactly what fits the type
abbrev pub IsAcceptor : Definitions → Tree → Automaton → State → Type 0
IsAcceptor E T a s = IsState a s × ((d : Document) → (accepts a d s ≡ true) ↔ types.Fits E T d)

-- whether the state accepts the document
abbrev pub TellsMembership : Automaton → State → Document → Output → Type 0
TellsMembership a s d o = o ≡ cond (accepts a d s) yes no

-- whether the state accepts the document of this file
abbrev pub AnswersByState : Automaton → State → Holding → (rose : Type 0) → (document : List ℕ) → Output → Type 0
AnswersByState a s holds rose document o = Step (EndsAtDocument holds rose document) (IsDocument holds document) (TellsMembership a s) o
