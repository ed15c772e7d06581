-- What the checker of proofs says, as what `verify` answers; and the steps of `verify` and
-- `upgrade`.
use Rattle.std.proofs.Common.{◌≡◌, ℕ, ◌<◌, ◌≤◌, ◌++◌, codes, inl, inr, List, [], ◌∷◌, length, refl, subst, arith}
use Rattle.std.specs.List.{AllByRecursion}
use Rattle.xd_base.specs.Outside.{HasRisen}
use Rattle.xd_syntax.specs.Program.{ProgramTree, names_of}
use Rattle.xd_syntax.specs.Table.{Row}
use Rattle.xd_meaning.specs.Consistent.{ClaimHolds, IsConsistent}
use Rattle.xd_meaning.specs.Violation.{Lined, goals_of}
use Rattle.xd_proof.specs.Goals.{AreGoalsAt}
use Rattle.xd_proof.specs.declared.proof.ProofGoal.{ProofGoal}
use Rattle.xd_proof_write.specs.ClaimText.{claim_text}
use Rattle.xd_command_steps.specs.Output.{Output}
use Rattle.xd_command_steps.specs.Texts.{Holding, IsHeld, document_limit}
use Rattle.xd_command_steps.specs.Proofs.{EndsAtProof, IsProof}
use Rattle.xd_command_inclusions.specs.Verify.{IsProved, Judges, AnswersVerify, AnswersUpgrade}
use Rattle.xd_command_documents.proofs.Steps.{text_later}

claim_of : (P : ProgramTree) (types : List Row) (proof : List ProofGoal) (goals : List Lined) (o : Output) → AreGoalsAt types proof goals → 0 < length proof →
    IsConsistent (names_of P) (goals_of goals) → AllByRecursion (ClaimHolds (names_of P)) (goals_of goals) →
    ((claim : Lined) (others : List Lined) → goals ≡ claim ∷ others → o ≡ record { status = 0; text = claim_text claim.goal ++ codes "\n" }) → IsProved P goals o
claim_of P types [] goals o are some consistent holds e = absurd (omega (arith, some))
claim_of P types (g ∷ gs) [] o are some consistent holds e = absurd are
claim_of P types (g ∷ gs) (l ∷ ls) o are some consistent holds e = record {
  consistent = consistent;
  claim = l;
  others = ls;
  first = refl;
  holds = holds.0;
  output = e l ls refl;
}

-- an accepted proof's claim is written
pub judges_accepted : (P : ProgramTree) (types : List Row) (proof : List ProofGoal) (goals : List Lined) (o : Output) → AreGoalsAt types proof goals → 0 < length proof →
    IsConsistent (names_of P) (goals_of goals) → AllByRecursion (ClaimHolds (names_of P)) (goals_of goals) →
    ((claim : Lined) (others : List Lined) → goals ≡ claim ∷ others → o ≡ record { status = 0; text = claim_text claim.goal ++ codes "\n" }) → Judges P goals o
judges_accepted P types proof goals o are some consistent holds e = inl (claim_of P types proof goals o are some consistent holds e)

-- what a later step gives, the shelf holding the same

proof_later : (a b c : ℕ) {old new : Holding} (file : List ℕ) (P : ProgramTree) (o : Output) → a ≤ b → new ≡ old → EndsAtProof new (HasRisen b c) file P o → EndsAtProof old (HasRisen a c) file P o
proof_later a b c {old} {new} file P o le e (inl h) = inl (text_later a b c {old = old} {new = new} file document_limit o le e h)
proof_later a b c {old} {new} file P o le e (inr h) = inr (h.0, (subst (λ x. IsHeld x file h.0) e h.1.0, h.1.1), h.2)

proof_same : {old new : Holding} (file : List ℕ) (P : ProgramTree) (goals : List Lined) → new ≡ old → IsProof new file P goals → IsProof old file P goals
proof_same {old} {new} file P goals e h = subst (λ x. IsProof x file P goals) e h

pub verify_later : (a b c : ℕ) {old new : Holding} (file : List ℕ) (P : ProgramTree) (o : Output) → a ≤ b → new ≡ old → AnswersVerify new (HasRisen b c) file P o → AnswersVerify old (HasRisen a c) file P o
verify_later a b c {old} {new} file P o le e (inl h) = inl (proof_later a b c {old = old} {new = new} file P o le e h)
verify_later a b c {old} {new} file P o le e (inr h) = inr (h.0, proof_same {old = old} {new = new} file P h.0 e h.1, h.2)

pub upgrade_later : (a b c : ℕ) {old new : Holding} (file : List ℕ) (P : ProgramTree) (o : Output) → a ≤ b → new ≡ old → AnswersUpgrade new (HasRisen b c) file P o → AnswersUpgrade old (HasRisen a c) file P o
upgrade_later a b c {old} {new} file P o le e (inl h) = inl (proof_later a b c {old = old} {new = new} file P o le e h)
upgrade_later a b c {old} {new} file P o le e (inr h) = inr (h.0, proof_same {old = old} {new = new} file P h.0 e h.1, h.2)
