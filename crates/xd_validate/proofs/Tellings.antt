-- What is told of one document.
use Rattle.std.proofs.Common.{◌≡◌, ◌≢◌, ◌<◌, ℕ, ◌≤◌, inl, inr, List, Option, Some, None, refl, ap, subst, ◌∙◌, ◌++◌, append_assoc, arith}
use Rattle.xd_auto.specs.Automaton.{Automaton}
use Rattle.xd_auto.specs.declared.auto.State.{State}
use Rattle.xd_base.specs.Outside.{HasRisen}
use Rattle.xd_doc.specs.Document.{Document}
use Rattle.xd_read.specs.Grammar.{Terminal}
use Rattle.xd_stream.specs.Expecting.{IsExpected}
use Rattle.xd_stream.specs.StopByState.{IsAccepted}
use Rattle.xd_stream.specs.declared.expected.Expected.{Expected}
use Rattle.xd_stream.specs.declared.error.StreamError.TheVariants as errors
use Rattle.xd_command_steps.specs.Output.{Output, malformed_document, outside_type, yes}
use Rattle.xd_command_steps.specs.Texts.{Holding, IsHeld}
use Rattle.xd_command_documents.proofs.Streams.{tells_there}
use Rattle.xd_validate.specs.Answers.{IsLine, IsTold}
use Rattle.xd_validate.specs.Ended.{EndsAs}
use Rattle.xd_validate.specs.Reading.{IsAllOf, IsOpened}
use Rattle.xd_validate.specs.declared.reading.Ended.{Ended}
use Rattle.xd_validate.specs.declared.reading.Ended.TheVariants.{Accepted, Stopped, Unread}

-- all that was left of a document when it was opened is its text
all-held : (holds : Holding) (name : List ℕ) (left : Option (List ℕ)) (bytes : List ℕ) → IsOpened holds name left → IsAllOf left bytes → IsHeld holds name bytes
all-held (Some texts) name (Some xs) bytes o e = subst (λ (ys : List ℕ). texts name ≡ Some ys) e o
all-held (Some texts) name None bytes o e = absurd o
all-held None name left bytes o e = tt

-- a count that rises later has risen
pub risen-later : (a b c : ℕ) → a ≤ b → HasRisen b c → HasRisen a c
risen-later a b c le (inl lt) = inl (omega arith)
risen-later a b c le (inr top) = inr top

above-zero : (n : ℕ) → 0 < n → n ≢ 0
above-zero n lt e = absurd (omega (arith, lt, e))

-- the line of a document that was read tells of it
pub told-by : (a : Automaton) (s : State) (holds : Holding) (rose : Type 0) (name : List ℕ) (left : Option (List ℕ)) (e : Ended) (o : Output) → IsOpened holds name left → EndsAs a s left rose e → IsLine name e o → IsTold (IsAccepted a s) holds rose name o
told-by a s holds rose name left Accepted o opened h line = inr (h.0, all-held holds name left h.0 opened h.1, (yes, inl (h.2, refl), inl line))
told-by a s holds rose name left (Stopped (errors.Malformed p)) o opened h line = inr (h.0, all-held holds name left h.0 opened h.1, (malformed_document p, inr (p, inl (h.2, refl)), inr (above-zero 7 (omega arith), line)))
told-by a s holds rose name left (Stopped (errors.Outside p)) o opened h line = inr (h.0, all-held holds name left h.0 opened h.1, (outside_type p, inr (p, inr (h.2, refl)), inr (above-zero 6 (omega arith), line)))
told-by a s holds rose name left (Stopped errors.NoMemory) o opened h line = absurd line
told-by a s holds rose name left Unread o opened h line = inl (inl h, line)

-- the same under another reason that it can't be read, or for another set with the same documents
pub told-for : (In : Document → Type 0) (holds : Holding) (rose rose' : Type 0) (name : List ℕ) (o : Output) → (rose → rose') → IsTold In holds rose name o → IsTold In holds rose' name o
told-for In holds rose rose' name o f (inl (inl r, e)) = inl (inl (f r), e)
told-for In holds rose rose' name o f (inl (inr l, e)) = inl (inr l, e)
told-for In holds rose rose' name o f (inr h) = inr h

module _ (In Into : Document → Type 0) (there : (d : Document) → In d → Into d) (back : (d : Document) → Into d → In d) where
  pub told-there : (holds : Holding) (rose : Type 0) (name : List ℕ) (o : Output) → IsTold In holds rose name o → IsTold Into holds rose name o
  told-there holds rose name o (inl h) = inl h
  told-there holds rose name o (inr h) = inr (h.0, h.1, (h.2.0, tells_there In Into there back h.0 h.2.0 h.2.1, h.2.2))

-- ---- more text

-- a text with four more behind it
pub more-text : (t a b c d u v w x : List ℕ) → u ≡ t ++ a → v ≡ u ++ b → w ≡ v ++ c → x ≡ w ++ d → (more : List ℕ) × (x ≡ t ++ more)
more-text t a b c d u v w x e f g h = (
  a ++ (b ++ (c ++ d)),
  h ∙ ap (λ (y : List ℕ). y ++ d) (g ∙ ap (λ (y : List ℕ). y ++ c) (f ∙ ap (λ (y : List ℕ). y ++ b) e)) ∙ append_assoc ((t ++ a) ++ b) c d ∙ append_assoc (t ++ a) b (c ++ d) ∙ append_assoc t a (b ++ (c ++ d)),
)

pub more-there : (s t x : List ℕ) → s ≡ t → ((more : List ℕ) × (x ≡ s ++ more)) → (more : List ℕ) × (x ≡ t ++ more)
more-there s t x e h = (h.0, h.1 ∙ ap (λ (y : List ℕ). y ++ h.0) e)

-- ---- what may come

pub expected-for : (a b : Automaton) (s t : State) (ts : List Terminal) (e : Expected) → a ≡ b → s ≡ t → IsExpected a s ts e → IsExpected b t ts e
expected-for a b s t ts e automaton start h = subst (λ (x : Automaton). IsExpected x t ts e) automaton (subst (λ (x : State). IsExpected a x ts e) start h)
