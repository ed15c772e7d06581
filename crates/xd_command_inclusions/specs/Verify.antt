-- What `verify` and `upgrade` answer, after the faults of the program.
use Rattle.std.specs.Prelude.{◌≡◌, ◌⊎◌, ℕ, List, ◌∷◌, ◌++◌, codes}
use Rattle.xd_syntax.specs.Program.{ProgramTree, names_of}
use Rattle.xd_meaning.specs.Consistent.{ClaimHolds, IsConsistent}
use Rattle.xd_meaning.specs.Violation.{Lined, Reason, goals_of, IsFirstViolation}
use Rattle.xd_proof_write.specs.ClaimText.{claim_text}
use Rattle.xd_proof_write.specs.SecondText.{second_text_of}
use Rattle.xd_command_steps.specs.Output.{Output}
use Rattle.xd_command_steps.specs.Proofs.{EndsAtProof, IsProof, bad_line}
use Rattle.xd_command_steps.specs.Step.{Step}
use Rattle.xd_command_steps.specs.Texts.{Holding}

-- the claim of a consistent proof, which holds
pub record IsProved (P : ProgramTree) (goals : List Lined) (o : Output) : Type 0 where
  pub consistent : IsConsistent (names_of P) (goals_of goals)
  pub claim : Lined
  pub others : List Lined
  pub first : goals ≡ claim ∷ others
  pub holds : ClaimHolds (names_of P) claim.goal
  pub output : o ≡ record { status = 0; text = claim_text claim.goal ++ codes "\n" }

-- The proof is consistent, and its claim holds; or a line breaks a rule, which is the first one.
abbrev pub Judges : ProgramTree → List Lined → Output → Type 0
Judges P goals o =
    IsProved P goals o
    ⊎ ((n : ℕ) × (reason : Reason) × IsFirstViolation (names_of P) goals n reason × (o ≡ bad_line n reason))

-- of a program without faults: the proof text, and whether it keeps the rules
abbrev pub AnswersVerify : Holding → (rose : Type 0) → (proof : List ℕ) → ProgramTree → Output → Type 0
AnswersVerify holds rose proof P o =
    Step (EndsAtProof holds rose proof P) (IsProof holds proof P) (Judges P) o

-- the goals, in the second format
abbrev pub Upgrades : List Lined → Output → Type 0
Upgrades goals o = o ≡ record { status = 0; text = second_text_of (goals_of goals) }

-- of a program without faults: the proof text, written in the second format
abbrev pub AnswersUpgrade : Holding → (rose : Type 0) → (proof : List ℕ) → ProgramTree → Output → Type 0
AnswersUpgrade holds rose proof P o = Step (EndsAtProof holds rose proof P) (IsProof holds proof P) Upgrades o
