-- Each step that reads a text ends in one way.
use Rattle.std.proofs.Common.{◌≡◌, ◌≢◌, ◌≤◌, ◌<◌, ◌⊎◌, ℕ, inl, inr, List, [], ◌∷◌, length, Option, Some, None, sym, ap, subst, ◌∙◌, arith}
use Rattle.xd_doc.specs.Document.{Document}
use Rattle.xd_read.specs.Reading.{BytesSpell}
use Rattle.xd_read.proofs.Machine.{one_document}
use Rattle.xd_read.proofs.OneFault.{malformed_at_one_place}
use Rattle.xd_syntax.specs.NameFaults.{name_faults, known_types}
use Rattle.xd_syntax.specs.Program.{ProgramTree}
use Rattle.xd_syntax.specs.RecursionFaults.{AreRecursionFaults, IsSound}
use Rattle.xd_syntax.specs.declared.fault.Fault.{Fault}
use Rattle.xd_grammar.specs.declared.grammar.Nonterminal.TheVariants.{Definitions}
use Rattle.xd_parse.proofs.FirstFaults.{first_faults_are_one}
use Rattle.xd_parse.proofs.Sure.{texts_mean_one_thing}
use Rattle.xd_rec.proofs.Recursion.{one_list}
use Rattle.xd_meaning.specs.Violation.{Lined, bad_form}
use Rattle.xd_proof.proofs.TheLaws.{first_bad_line_is_one, proof_texts_are_one}
use Rattle.xd_command_steps.specs.Output.{Output, fault_lines, malformed_document}
use Rattle.xd_command_steps.specs.Texts.{EndsAtText, IsText, program_limit, document_limit}
use Rattle.xd_command_steps.specs.Programs.{AreTextFaults, IsSoundText, EndsAtFaults}
use Rattle.xd_command_steps.specs.Documents.{EndsAtMalformed}
use Rattle.xd_command_steps.specs.Proofs.{HasGoals, EndsAtForm, bad_line}
use Rattle.xd_command_steps.specs.Laws.{Texts, IsOneStep, StepsAreOne, IsRead, CountsTellNothing}

-- ---- texts
some_one : (x y : List ℕ) → Some x ≡ Some y → x ≡ y
some_one x y e = cc

nothing_there : (o : Option (List ℕ)) (x : List ℕ) → o ≡ None → o ≡ Some x → ⊥
nothing_there o x e f = let z : None ≡ Some x = sym e ∙ f in cc

too_long_for : (n : ℕ) (x y : List ℕ) → x ≡ y → n < length x → length y ≤ n → ⊥
too_long_for n x y e h k = omega (arith, ap length e, h, k)

module _ (texts : Texts) (name : List ℕ) (limit : ℕ) where
  text_output : (o p : Output) → EndsAtText (Some texts) ⊥ name limit o → EndsAtText (Some texts) ⊥ name limit p → o ≡ p
  text_output o p (inl a) (inl b) = a.1 ∙ sym b.1
  text_output o p (inl (inl z, e)) (inr b) = absurd z
  text_output o p (inl (inr l, e)) (inr b) = absurd (nothing_there (texts name) b.0 l b.1)
  text_output o p (inr a) (inl (inl z, e)) = absurd z
  text_output o p (inr a) (inl (inr l, e)) = absurd (nothing_there (texts name) a.0 l a.1)
  text_output o p (inr a) (inr b) = a.3 ∙ sym b.3

  text_found : (x y : List ℕ) → IsText (Some texts) name limit x → IsText (Some texts) name limit y → x ≡ y
  text_found x y a b = some_one x y (sym a.0 ∙ b.0)

  text_apart : (o : Output) (x : List ℕ) → EndsAtText (Some texts) ⊥ name limit o → IsText (Some texts) name limit x → ⊥
  text_apart o x (inl (inl z, e)) b = absurd z
  text_apart o x (inl (inr l, e)) b = nothing_there (texts name) x l b.0
  text_apart o x (inr a) b = too_long_for limit a.0 x (some_one a.0 x (sym a.1 ∙ b.0)) a.2 b.1

  text_settled : (rose : Type 0) (o : Output) → IsRead rose o → EndsAtText (Some texts) rose name limit o → EndsAtText (Some texts) ⊥ name limit o
  text_settled rose o h (inl (inl r, e)) = absurd (h r (ap (λ (p : Output). p.status) e))
  text_settled rose o h (inl (inr l, e)) = inl (inr l, e)
  text_settled rose o h (inr a) = inr a

  -- what is after the text, by the text
  module _ (A : Type 0) (E : List ℕ → Output → Type 0) (F : List ℕ → A → Type 0) where
    abbrev Ends : (rose : Type 0) → Output → Type 0
    Ends rose o = EndsAtText (Some texts) rose name limit o ⊎ ((x : List ℕ) × IsText (Some texts) name limit x × E x o)

    abbrev Finds : A → Type 0
    Finds y = (x : List ℕ) × IsText (Some texts) name limit x × F x y

    reading_one : ((x : List ℕ) → IsOneStep A (E x) (F x)) → IsOneStep A (Ends ⊥) Finds
    reading_one one = record { output = output; found = found; apart = apart }
      where
        output : (o p : Output) → Ends ⊥ o → Ends ⊥ p → o ≡ p
        output o p (inl a) (inl b) = text_output o p a b
        output o p (inl a) (inr b) = absurd (text_apart o b.0 a b.1)
        output o p (inr a) (inl b) = absurd (text_apart p a.0 b a.1)
        output o p (inr a) (inr b) = (one b.0).output o p (subst (λ x. E x o) (text_found a.0 b.0 a.1 b.1) a.2) b.2

        found : (y z : A) → Finds y → Finds z → y ≡ z
        found y z a b = (one b.0).found y z (subst (λ x. F x y) (text_found a.0 b.0 a.1 b.1) a.2) b.2

        apart : (o : Output) (y : A) → Ends ⊥ o → Finds y → ⊥
        apart o y (inl a) b = text_apart o b.0 a b.1
        apart o y (inr a) b = (one b.0).apart o y (subst (λ x. E x o) (text_found a.0 b.0 a.1 b.1) a.2) b.2

    reading_settled : (rose : Type 0) (o : Output) → IsRead rose o → Ends rose o → Ends ⊥ o
    reading_settled rose o h (inl a) = inl (text_settled rose o h a)
    reading_settled rose o h (inr a) = inr a

-- ---- programs
abbrev Level : ProgramTree → List Fault → Type 0
Level P fs = ((fs ≡ name_faults P) × (fs ≢ [])) ⊎ ((name_faults P ≡ []) × AreRecursionFaults P fs × (fs ≢ []))

level_one : (P : ProgramTree) (fs gs : List Fault) → Level P fs → Level P gs → fs ≡ gs
level_one P fs gs (inl a) (inl b) = a.0 ∙ sym b.0
level_one P fs gs (inl a) (inr b) = absurd (a.1 (a.0 ∙ b.0))
level_one P fs gs (inr a) (inl b) = absurd (b.1 (b.0 ∙ a.0))
level_one P fs gs (inr a) (inr b) = one_list P fs gs a.1 b.1

level_unsound : (P : ProgramTree) (fs : List Fault) → Level P fs → IsSound P → ⊥
level_unsound P fs (inl a) s = a.1 (a.0 ∙ s.names)
level_unsound P fs (inr a) s = a.2 (one_list P fs [] a.1 s.recursion)

module _ (text : List ℕ) where
  faults_one : (fs gs : List Fault) → AreTextFaults text fs → AreTextFaults text gs → fs ≡ gs
  faults_one fs gs (inl a) (inl b) = a.2 ∙ ap (λ f. f ∷ []) (first_faults_are_one.one Definitions text a.0 b.0 a.1 b.1) ∙ sym b.2
  faults_one fs gs (inl a) (inr b) = absurd (first_faults_are_one.nothing Definitions text a.0 a.1 (b.1).within)
  faults_one fs gs (inr a) (inl b) = absurd (first_faults_are_one.nothing Definitions text b.0 b.1 (a.1).within)
  faults_one fs gs (inr a) (inr b) = level_one b.0 fs gs (subst (λ P. Level P fs) (texts_mean_one_thing.programs text a.0 b.0 (a.1).spelled (b.1).spelled) a.2) b.2

  faults_unsound : (fs : List Fault) (P : ProgramTree) → AreTextFaults text fs → IsSoundText text P → ⊥
  faults_unsound fs P (inl a) s = first_faults_are_one.nothing Definitions text a.0 a.1 (s.spelled).within
  faults_unsound fs P (inr a) s = level_unsound P fs (subst (λ Q. Level Q fs) (texts_mean_one_thing.programs text a.0 P (a.1).spelled (s.spelled).spelled) a.2) s.sound

  program_one : IsOneStep ProgramTree (EndsAtFaults text) (IsSoundText text)
  program_one = record {
    output = λ o p a b. a.2 ∙ ap fault_lines (faults_one a.0 b.0 a.1 b.1) ∙ sym b.2;
    found = λ P Q a b. texts_mean_one_thing.programs text P Q (a.spelled).spelled (b.spelled).spelled;
    apart = λ o P a s. faults_unsound a.0 P a.1 s;
  }

-- ---- documents and proofs
document_one : (bytes : List ℕ) → IsOneStep Document (EndsAtMalformed bytes) (BytesSpell bytes)
document_one bytes = record {
  output = λ o p a b. a.3 ∙ ap malformed_document (malformed_at_one_place bytes a.0 b.0 a.2 b.2) ∙ sym b.3;
  found = λ d e a b. one_document _ d e a.spells b.spells;
  apart = λ o d a b. a.1 d b;
}

proof_one : (P : ProgramTree) (bytes : List ℕ) → IsOneStep (List Lined) (EndsAtForm P bytes) (HasGoals P bytes)
proof_one P bytes = record {
  output = λ o p a b. a.2 ∙ ap (λ n. bad_line n bad_form) (first_bad_line_is_one (known_types P) bytes a.0 b.0 a.1 b.1) ∙ sym b.2;
  found = λ gs hs a b. proof_texts_are_one (known_types P) bytes gs hs a b;
  apart = λ o gs a b. (a.1).unread gs b;
}

pub steps_are_one : StepsAreOne
steps_are_one = record {
  text = λ texts name limit. record { output = text_output texts name limit; found = text_found texts name limit; apart = text_apart texts name limit };
  programs = λ texts file. reading_one texts file program_limit ProgramTree EndsAtFaults IsSoundText program_one;
  documents = λ texts file. reading_one texts file document_limit Document EndsAtMalformed BytesSpell document_one;
  proofs = λ texts file P. reading_one texts file document_limit (List Lined) (EndsAtForm P) (HasGoals P) (proof_one P);
}

pub counts_tell_nothing : (rose : Type 0) → CountsTellNothing rose
counts_tell_nothing rose = record {
  text = λ texts name limit o h a. text_settled texts name limit rose o h a;
  programs = λ texts file o h a. reading_settled texts file program_limit ProgramTree EndsAtFaults IsSoundText rose o h a;
  documents = λ texts file o h a. reading_settled texts file document_limit Document EndsAtMalformed BytesSpell rose o h a;
  proofs = λ texts file P o h a. reading_settled texts file document_limit (List Lined) (EndsAtForm P) (HasGoals P) rose o h a;
}
