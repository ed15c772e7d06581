-- The same words and the same texts have one answer, but where the definitions leave a choice.
use Rattle.std.proofs.Common.{◌≡◌, ◌⊎◌, ℕ, inl, inr, List, Option, Some, None, sym, ap, ◌∙◌, append-nil}
use Rattle.xd_base.specs.Outside.{HasRisen}
use Rattle.xd_prefer.specs.Preferred.{Prefers}
use Rattle.xd_syntax.specs.May.{MayBind}
use Rattle.xd_syntax.specs.Program.{ProgramTree}
use Rattle.xd_command.specs.declared.command.Command.{Command}
use Rattle.xd_command.specs.declared.command.Command.TheVariants.{Fits, Stream, Subtype, Minus, Verify, Upgrade, Least, Check, Types, Precise, Run, Sample}
use Rattle.xd_command_steps.specs.Output.{Output, canonical, separated, IsSent}
use Rattle.xd_command_steps.specs.Laws.{Texts, IsRead}
use Rattle.xd_command_steps.specs.Programs.{EndsAtProgram, IsProgram}
use Rattle.xd_command_steps.specs.Step.{Step}
use Rattle.xd_command_steps.proofs.OneStep.{steps_are_one, counts_tell_nothing}
use Rattle.xd_command_documents.specs.Fits.{AnswersFits}
use Rattle.xd_command_documents.specs.Stream.{AnswersStream}
use Rattle.xd_command_inclusions.specs.Subtype.{AnswersSubtype}
use Rattle.xd_command_inclusions.specs.Minus.{AnswersMinus}
use Rattle.xd_command_inclusions.specs.Verify.{AnswersVerify, AnswersUpgrade}
use Rattle.xd_command_documents.specs.Least.{AnswersLeast}
use Rattle.xd_command_programs.specs.Check.{AnswersCheck}
use Rattle.xd_command_programs.specs.Types.{AnswersTypes}
use Rattle.xd_command_programs.specs.Run.{AnswersRun}
use Rattle.xd_command.specs.Answer.{Answers, IsAnswer}
use Rattle.xd_command_laws.specs.OneAnswer.{ProveAlike, CarryAlike, FaultsAlike, ShowAlike, BlocksAlike, MayDiffer, AreOneAnswer, AnswersAreOne, CountsHideAnswers, IsPlainOutcome, WritesNothing, WritesWhole, OutcomesAreOne}
use Rattle.xd_command_laws.proofs.OneRow.{IsOneRow, Never, step_alike, step_settled, fits_alike, fits_settled, stream_alike, stream_settled, subtype_alike, minus_alike, least_alike, verify_alike, verify_settled, upgrade_alike, upgrade_settled, check_alike, types_alike, run_alike, run_settled}

-- ---- a row after the step that reads the program
module _ (texts : Texts) (file : List ℕ) (row : ProgramTree → Output → Type 0) where
  behind_program : (Differ : Output → Output → Type 0) → ((P : ProgramTree) → IsOneRow Differ (row P)) → IsOneRow Differ (Step (EndsAtProgram (Some texts) ⊥ file) (IsProgram (Some texts) file) row)
  behind_program Differ one = step_alike Differ ProgramTree (EndsAtProgram (Some texts) ⊥ file) (IsProgram (Some texts) file) row (steps_are_one.programs texts file) one

  settled_behind : (rose : Type 0) (before : ProgramTree → Output → Type 0) (o : Output) → IsRead rose o → ((P : ProgramTree) → before P o → row P o) →
      Step (EndsAtProgram (Some texts) rose file) (IsProgram (Some texts) file) before o → Step (EndsAtProgram (Some texts) ⊥ file) (IsProgram (Some texts) file) row o
  settled_behind rose before o h f a =
      step_settled ProgramTree (EndsAtProgram (Some texts) rose file) (EndsAtProgram (Some texts) ⊥ file) (IsProgram (Some texts) file) before row o ((counts_tell_nothing rose).programs texts file o h) f a

-- ---- each command, by its row
answers_alike : (command : Command) (texts : Texts) → IsOneRow (MayDiffer command) (Answers command (Some texts) ⊥)
answers_alike (Fits file name document) texts o p a b = behind_program texts file (AnswersFits (Some texts) ⊥ name document) Never (fits_alike texts name document) o p a b
answers_alike (Stream file name document piece) texts o p a b = behind_program texts file (AnswersStream (Some texts) ⊥ name document) Never (stream_alike texts name document) o p a b
answers_alike (Subtype file left right) texts o p a b = behind_program texts file (AnswersSubtype left right) (λ q r. ProveAlike q r ⊎ CarryAlike separated q r) (subtype_alike left right) o p a b
answers_alike (Minus file left right) texts o p a b = behind_program texts file (AnswersMinus left right) ShowAlike (minus_alike left right) o p a b
answers_alike (Verify file proof) texts o p a b = behind_program texts file (AnswersVerify (Some texts) ⊥ proof) Never (verify_alike texts proof) o p a b
answers_alike (Upgrade file proof) texts o p a b = behind_program texts file (AnswersUpgrade (Some texts) ⊥ proof) Never (upgrade_alike texts proof) o p a b
answers_alike (Least file name) texts o p a b = behind_program texts file (AnswersLeast name) (CarryAlike canonical) (least_alike name) o p a b
answers_alike (Check file) texts o p a b = behind_program texts file AnswersCheck FaultsAlike check_alike o p a b
answers_alike (Types file) texts o p a b = behind_program texts file (AnswersTypes MayBind) (λ q r. FaultsAlike q r ⊎ BlocksAlike q r) (types_alike MayBind) o p a b
answers_alike (Precise file) texts o p a b = behind_program texts file (AnswersTypes Prefers) (λ q r. FaultsAlike q r ⊎ BlocksAlike q r) (types_alike Prefers) o p a b
answers_alike (Run file document fuel) texts o p a b = behind_program texts file (AnswersRun (Some texts) ⊥ document fuel) FaultsAlike (run_alike texts document fuel) o p a b
answers_alike (Sample persons) texts o p a b = inl (a ∙ sym b)

answers_settled : (command : Command) (texts : Texts) (rose : Type 0) (o : Output) → IsRead rose o → Answers command (Some texts) rose o → Answers command (Some texts) ⊥ o
answers_settled (Fits file name document) texts rose o h a = settled_behind texts file (AnswersFits (Some texts) ⊥ name document) rose (AnswersFits (Some texts) rose name document) o h (λ P b. fits_settled texts rose name document P o h b) a
answers_settled (Stream file name document piece) texts rose o h a = settled_behind texts file (AnswersStream (Some texts) ⊥ name document) rose (AnswersStream (Some texts) rose name document) o h (λ P b. stream_settled texts rose name document P o h b) a
answers_settled (Subtype file left right) texts rose o h a = settled_behind texts file (AnswersSubtype left right) rose (AnswersSubtype left right) o h (λ P b. b) a
answers_settled (Minus file left right) texts rose o h a = settled_behind texts file (AnswersMinus left right) rose (AnswersMinus left right) o h (λ P b. b) a
answers_settled (Verify file proof) texts rose o h a = settled_behind texts file (AnswersVerify (Some texts) ⊥ proof) rose (AnswersVerify (Some texts) rose proof) o h (λ P b. verify_settled texts rose proof P o h b) a
answers_settled (Upgrade file proof) texts rose o h a = settled_behind texts file (AnswersUpgrade (Some texts) ⊥ proof) rose (AnswersUpgrade (Some texts) rose proof) o h (λ P b. upgrade_settled texts rose proof P o h b) a
answers_settled (Least file name) texts rose o h a = settled_behind texts file (AnswersLeast name) rose (AnswersLeast name) o h (λ P b. b) a
answers_settled (Check file) texts rose o h a = settled_behind texts file AnswersCheck rose AnswersCheck o h (λ P b. b) a
answers_settled (Types file) texts rose o h a = settled_behind texts file (AnswersTypes MayBind) rose (AnswersTypes MayBind) o h (λ P b. b) a
answers_settled (Precise file) texts rose o h a = settled_behind texts file (AnswersTypes Prefers) rose (AnswersTypes Prefers) o h (λ P b. b) a
answers_settled (Run file document fuel) texts rose o h a = settled_behind texts file (AnswersRun (Some texts) ⊥ document fuel) rose (AnswersRun (Some texts) rose document fuel) o h (λ P b. run_settled texts rose document fuel P o h b) a
answers_settled (Sample persons) texts rose o h a = a

-- ---- outputs that differ as they may are of one status
abbrev status : Output → ℕ
status o = o.status

one_status : (command : Command) (o p : Output) → MayDiffer command o p → status o ≡ status p
one_status (Subtype file left right) o p (inl m) = m.status ∙ sym m.other_status
one_status (Subtype file left right) o p (inr m) = ap status m.3 ∙ sym (ap status m.4)
one_status (Minus file left right) o p m = m.status ∙ sym m.other_status
one_status (Least file name) o p m = ap status m.3 ∙ sym (ap status m.4)
one_status (Check file) o p m = m.refused ∙ sym m.other_refused
one_status (Types file) o p (inl m) = m.refused ∙ sym m.other_refused
one_status (Types file) o p (inr m) = m.status ∙ sym m.other_status
one_status (Precise file) o p (inl m) = m.refused ∙ sym m.other_refused
one_status (Precise file) o p (inr m) = m.status ∙ sym m.other_status
one_status (Run file document fuel) o p m = m.refused ∙ sym m.other_refused
one_status command o p m = absurd m

alike_one : (command : Command) (o p : Output) → (o ≡ p) ⊎ MayDiffer command o p → AreOneAnswer (Some command) o p
alike_one command o p (inl e) = record { status = ap status e; alike = inl e }
alike_one command o p (inr m) = record { status = one_status command o p m; alike = inr m }

pub answers_are_one : AnswersAreOne
answers_are_one None texts o p a b = record { status = ap status (a ∙ sym b); alike = a ∙ sym b }
answers_are_one (Some command) texts o p a b = alike_one command o p (answers_alike command texts o p a b)

pub counts_hide_answers : CountsHideAnswers
counts_hide_answers None texts before after o h a = a
counts_hide_answers (Some command) texts before after o h a = answers_settled command texts (HasRisen before after) o h a

-- ---- what is written
module _ (command : Option Command) (texts : Texts) where
  -- an answer of the texts is written whole
  abbrev Written : (before after : List ℕ) → ℕ → Type 0
  Written before after code = (o : Output) × IsAnswer command (Some texts) ⊥ o × WritesWhole o before after code

  sent_whole : (o : Output) (rose : Type 0) (before after : List ℕ) (code : ℕ) → (rose → ⊥) → IsSent o rose (Some before) (Some after) code → WritesWhole o before after code
  sent_whole o rose before after code h (inl a) = a
  sent_whole o rose before after code h (inr a) = absurd (h a.1)

  written : (before after : List ℕ) (code : ℕ) → IsPlainOutcome command texts before after code → WritesNothing before after code ⊎ Written before after code
  written before after code c = elim c.outcome [
    | inl a ↦ inl (a.0, a.1 ∙ append-nil before)
    | inr a ↦ inr (
      a.0,
      counts_hide_answers command texts c.shelf_before c.shelf_after a.0 (λ r. absurd (c.shelf_well r)) a.1,
      sent_whole a.0 (HasRisen c.sink_before c.sink_after) before after code c.sink_well a.2,
    )
  ]

pub outcomes_are_one : OutcomesAreOne
outcomes_are_one command texts before after begun ended code other c e =
    elim (written command texts before after code c) [
      | inl a ↦ inl a
      | inr a ↦ elim (written command texts begun ended other e) [ inl b ↦ inr (inl b) | inr b ↦ inr (inr (a.0, b.0, answers_are_one command texts a.0 b.0 a.1 b.1, a.2, b.2)) ]
    ]
