-- Each step that reads a text ends in one way, where the shelf tells what it holds.
use Rattle.std.specs.Prelude.{◌≡◌, ◌≢◌, ℕ, List, Option, Some}
use Rattle.xd_doc.specs.Document.{Document}
use Rattle.xd_syntax.specs.Program.{ProgramTree}
use Rattle.xd_meaning.specs.Violation.{Lined}
use Rattle.xd_command_steps.specs.Output.{Output}
use Rattle.xd_command_steps.specs.Texts.{EndsAtText, IsText}
use Rattle.xd_command_steps.specs.Programs.{EndsAtProgram, IsProgram}
use Rattle.xd_command_steps.specs.Documents.{EndsAtDocument, IsDocument}
use Rattle.xd_command_steps.specs.Proofs.{EndsAtProof, IsProof}

-- the texts that a shelf tells, by their names
abbrev pub Texts : Type 0
Texts = List ℕ → Option (List ℕ)

-- a step ends with one output at most, finds one thing at most, and never does both
pub record IsOneStep (A : Type 0) (ends : Output → Type 0) (finds : A → Type 0) : Type 0 where
  pub output : (o p : Output) → ends o → ends p → o ≡ p
  pub found : (x y : A) → finds x → finds y → x ≡ y
  pub apart : (o : Output) (x : A) → ends o → finds x → ⊥

-- so it is with texts, programs, documents and proofs, where no count of faults rose
pub record StepsAreOne : Type 0 where
  pub text : (texts : Texts) (name : List ℕ) (limit : ℕ) → IsOneStep (List ℕ) (EndsAtText (Some texts) ⊥ name limit) (IsText (Some texts) name limit)
  pub programs : (texts : Texts) (file : List ℕ) → IsOneStep ProgramTree (EndsAtProgram (Some texts) ⊥ file) (IsProgram (Some texts) file)
  pub documents : (texts : Texts) (file : List ℕ) → IsOneStep Document (EndsAtDocument (Some texts) ⊥ file) (IsDocument (Some texts) file)
  pub proofs : (texts : Texts) (file : List ℕ) (P : ProgramTree) → IsOneStep (List Lined) (EndsAtProof (Some texts) ⊥ file P) (IsProof (Some texts) file P)

-- an output that isn't of status 3 for the reason that a count rose
abbrev pub IsRead : (rose : Type 0) → Output → Type 0
IsRead rose o = rose → o.status ≢ 3

-- a step that ends so ends so whatever the count of the shelf's faults did
pub record CountsTellNothing (rose : Type 0) : Type 0 where
  pub text : (texts : Texts) (name : List ℕ) (limit : ℕ) (o : Output) → IsRead rose o → EndsAtText (Some texts) rose name limit o → EndsAtText (Some texts) ⊥ name limit o
  pub programs : (texts : Texts) (file : List ℕ) (o : Output) → IsRead rose o → EndsAtProgram (Some texts) rose file o → EndsAtProgram (Some texts) ⊥ file o
  pub documents : (texts : Texts) (file : List ℕ) (o : Output) → IsRead rose o → EndsAtDocument (Some texts) rose file o → EndsAtDocument (Some texts) ⊥ file o
  pub proofs : (texts : Texts) (file : List ℕ) (P : ProgramTree) (o : Output) → IsRead rose o → EndsAtProof (Some texts) rose file P o → EndsAtProof (Some texts) ⊥ file P o
