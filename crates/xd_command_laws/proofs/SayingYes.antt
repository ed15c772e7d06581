-- `stream` and `fits` say yes of the same documents.
use Rattle.std.proofs.Common.{◌≡◌, ◌↔◌, ◌⊎◌, ◌≢◌, ℕ, inl, inr, Bool, true, false, List, Some, sym, ap, subst, ◌∙◌, arith}
use Rattle.xd_base.specs.declared.Place.{Place}
use Rattle.xd_doc.specs.Document.{Document}
use Rattle.xd_read.specs.Reading.{BytesSpell}
use Rattle.xd_read.proofs.Machine.{one_document}
use Rattle.xd_stream.specs.Stop.{SpellsOneOf, StopsMalformed, StopsOutside}
use Rattle.xd_stream.proofs.Proper.{spelled_is_proper}
use Rattle.xd_stream.proofs.IsFirstStopLemmas.{never_malformed, never_outside}
use Rattle.xd_syntax.specs.Fits as types
use Rattle.xd_syntax.specs.Program.{ProgramTree, names_of}
use Rattle.xd_syntax.specs.Sound.{is_defined, type_named}
use Rattle.xd_command_steps.specs.Output.{Output, yes, no, malformed_document, outside_type}
use Rattle.xd_command_steps.specs.Step.{Step}
use Rattle.xd_command_steps.specs.Texts.{EndsAtText, IsText, document_limit}
use Rattle.xd_command_steps.specs.Documents.{EndsAtDocument, EndsAtMalformed, IsDocument}
use Rattle.xd_command_steps.specs.Programs.{EndsAtProgram, IsProgram}
use Rattle.xd_command_steps.specs.Laws.{IsOneStep, Texts}
use Rattle.xd_command_steps.proofs.OneStep.{steps_are_one}
use Rattle.xd_command_documents.specs.Fits.{AnswersFits, AnswersMembership, EndsAtName, FitsType}
use Rattle.xd_command_documents.specs.Stream.{AnswersBytes, AnswersStream, TellsStop}
use Rattle.xd_command_laws.specs.SayingYes.{SayYesAlike}

abbrev Alike : Output → Output → Type 0
Alike o p = (o ≡ yes) ↔ (p ≡ yes)

one_output : (o p : Output) → o ≡ p → Alike o p
one_output o p e = (λ h. sym e ∙ h, λ h. e ∙ h)

both_yes : (o p : Output) → o ≡ yes → p ≡ yes → Alike o p
both_yes o p e f = (λ h. f, λ h. e)

neither : (o p : Output) → o ≢ yes → p ≢ yes → Alike o p
neither o p e f = (λ h. absurd (e h), λ h. absurd (f h))

-- another output than yes
other : (o q : Output) → o ≡ q → q.status ≢ 0 → o ≢ yes
other o q e n h = n (ap (λ (x : Output). x.status) (sym e ∙ h))

stops_otherwise : (P : ProgramTree) (name bytes : List ℕ) (o : Output) (p : Place) →
    ((StopsMalformed (FitsType (names_of P) (type_named name)) bytes p × (o ≡ malformed_document p)) ⊎ (StopsOutside (FitsType (names_of P) (type_named name)) bytes p × (o ≡ outside_type p))) → o ≢ yes
stops_otherwise P name bytes o p (inl s) = other o (malformed_document p) s.1 (λ e. absurd (omega (arith, e)))
stops_otherwise P name bytes o p (inr s) = other o (outside_type p) s.1 (λ e. absurd (omega (arith, e)))

-- what spells a document of the type has no stop
never : (P : ProgramTree) (name bytes : List ℕ) (o : Output) (p : Place) → SpellsOneOf (FitsType (names_of P) (type_named name)) bytes →
    ((StopsMalformed (FitsType (names_of P) (type_named name)) bytes p × (o ≡ malformed_document p)) ⊎ (StopsOutside (FitsType (names_of P) (type_named name)) bytes p × (o ≡ outside_type p))) → ⊥
never P name bytes o p d (inl s) = never_malformed (FitsType (names_of P) (type_named name)) bytes p d s.0
never P name bytes o p d (inr s) = never_outside (FitsType (names_of P) (type_named name)) bytes p d s.0

-- ---- after the text
malformed : (P : ProgramTree) (name bytes : List ℕ) (o p : Output) → TellsStop (FitsType (names_of P) (type_named name)) bytes o → EndsAtMalformed bytes p → Alike o p
malformed P name bytes o p (inl s) m = absurd (m.1 s.0.document s.0.spells)
malformed P name bytes o p (inr s) m = neither o p (stops_otherwise P name bytes o s.0 s.1) (other p (malformed_document m.0) m.3 (λ e. absurd (omega (arith, e))))

spelled : (P : ProgramTree) (name bytes : List ℕ) (o p : Output) (d : Document) → BytesSpell bytes d → TellsStop (FitsType (names_of P) (type_named name)) bytes o → AnswersMembership P name d p → Alike o p
spelled P name bytes o p d b (inl s) (inl m) = both_yes o p s.1 m.1
spelled P name bytes o p d b (inl s) (inr m) =
    absurd (m.0 (subst (λ x. types.Fits (names_of P) (type_named name) x) (one_document _ s.0.document d s.0.spells.spells b.spells) s.0.within.fits))
spelled P name bytes o p d b (inr s) (inl m) =
    absurd (never P name bytes o s.0 (record { document = d; spells = b; within = record { proper = spelled_is_proper bytes d b; fits = m.0 } }) s.1)
spelled P name bytes o p d b (inr s) (inr m) = neither o p (stops_otherwise P name bytes o s.0 s.1) (other p no m.1 (λ e. absurd (omega (arith, e))))

module _ (texts : Texts) (name document : List ℕ) where
  one : IsOneStep (List ℕ) (EndsAtText (Some texts) ⊥ document document_limit) (IsText (Some texts) document document_limit)
  one = steps_are_one.text texts document document_limit

  behind_name : (P : ProgramTree) (o p : Output) → Step (EndsAtText (Some texts) ⊥ document document_limit) (IsText (Some texts) document document_limit) (AnswersBytes P name) o →
      Step (EndsAtDocument (Some texts) ⊥ document) (IsDocument (Some texts) document) (AnswersMembership P name) p → Alike o p
  behind_name P o p (inl a) (inl (inl b)) = one_output o p (one.output o p a b)
  behind_name P o p (inl a) (inl (inr b)) = absurd (one.apart o b.0 a b.1)
  behind_name P o p (inl a) (inr b) = absurd (one.apart o b.1.0 a b.1.1)
  behind_name P o p (inr a) (inl (inl b)) = absurd (one.apart p a.0 b a.1)
  behind_name P o p (inr a) (inl (inr b)) = malformed P name b.0 o p (subst (λ (xs : List ℕ). TellsStop (FitsType (names_of P) (type_named name)) xs o) (one.found a.0 b.0 a.1 b.1) a.2) b.2
  behind_name P o p (inr a) (inr b) = spelled P name b.1.0 o p b.0 b.1.2 (subst (λ (xs : List ℕ). TellsStop (FitsType (names_of P) (type_named name)) xs o) (one.found a.0 b.1.0 a.1 b.1.1) a.2) b.2

  not_both : (b : Bool) → b ≡ false → b ≡ true → ⊥
  not_both b e f = let z : false ≡ true = sym e ∙ f in cc

  behind_program : (P : ProgramTree) (o p : Output) → AnswersStream (Some texts) ⊥ name document P o → AnswersFits (Some texts) ⊥ name document P p → Alike o p
  behind_program P o p (inl a) (inl b) = one_output o p (a.1 ∙ sym b.1)
  behind_program P o p (inl a) (inr b) = absurd (not_both (is_defined P name) a.0 b.0)
  behind_program P o p (inr a) (inl b) = absurd (not_both (is_defined P name) b.0 a.0)
  behind_program P o p (inr a) (inr b) = behind_name P o p a.1 b.1

  both : (file : List ℕ) (o p : Output) → Step (EndsAtProgram (Some texts) ⊥ file) (IsProgram (Some texts) file) (AnswersStream (Some texts) ⊥ name document) o →
      Step (EndsAtProgram (Some texts) ⊥ file) (IsProgram (Some texts) file) (AnswersFits (Some texts) ⊥ name document) p → Alike o p
  both file o p (inl a) (inl b) = one_output o p ((steps_are_one.programs texts file).output o p a b)
  both file o p (inl a) (inr b) = absurd ((steps_are_one.programs texts file).apart o b.0 a b.1)
  both file o p (inr a) (inl b) = absurd ((steps_are_one.programs texts file).apart p a.0 b a.1)
  both file o p (inr a) (inr b) = behind_program b.0 o p (subst (λ P. AnswersStream (Some texts) ⊥ name document P o) ((steps_are_one.programs texts file).found a.0 b.0 a.1 b.1) a.2) b.2

pub say_yes_alike : SayYesAlike
say_yes_alike file name document piece texts o p a b = both texts name document file o p a b
