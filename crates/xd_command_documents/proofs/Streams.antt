-- What `stream` answers, by a state that accepts what fits the type.
use Rattle.std.proofs.Common.{◌≡◌, ℕ, ◌≤◌, inl, inr, ⊎_elim, true, List, ◌++◌, length, sym, ap, subst, ◌∙◌}
use Rattle.std.proofs.lemmas.List.{append-nil, nil_from_length}
use Rattle.xd_base.specs.Outside.{HasRisen}
use Rattle.xd_base.specs.declared.Place.{Place}
use Rattle.xd_doc.specs.Document.{Document}
use Rattle.xd_lex.specs.Tokens.{Lexeme}
use Rattle.xd_read.specs.Grammar.{Terminal}
use Rattle.xd_auto.specs.Automaton.{Automaton}
use Rattle.xd_auto.specs.declared.auto.State.{State}
use Rattle.xd_stream.specs.Fed.{StopsAs}
use Rattle.xd_stream.specs.Stop.{BeginsOneOf, IsFirstStop, SpellsOneOf}
use Rattle.xd_stream.specs.StopByState.{IsAccepted, SpellsAccepted}
use Rattle.xd_stream.specs.declared.error.StreamError.{StreamError}
use Rattle.xd_syntax.specs.Program.{ProgramTree, names_of}
use Rattle.xd_syntax.specs.Sound.{is_defined, type_named}
use Rattle.xd_command_steps.specs.Output.{Output}
use Rattle.xd_command_steps.specs.Texts.{Holding, IsHeld, document_limit}
use Rattle.xd_command_documents.specs.Fits.{FitsType}
use Rattle.xd_command_documents.specs.FitsByState.{IsAcceptor}
use Rattle.xd_command_documents.specs.Stream.{AnswersStream, TellsStop}
use Rattle.xd_command_documents.specs.StreamByState.{StreamsByState}
use Rattle.xd_command_documents.proofs.Steps.{text_later}

-- ---- two sets with the same documents

module _ (In Into : Document → Type 0) (there : (d : Document) → In d → Into d) where
  begins_there : (ts : List Terminal) → BeginsOneOf In ts → BeginsOneOf Into ts
  begins_there ts b = record { more = b.more; document = b.document; spells = b.spells; within = there b.document b.within }

  spells_there : (bytes : List ℕ) → SpellsOneOf In bytes → SpellsOneOf Into bytes
  spells_there bytes s = record { document = s.document; spells = s.spells; within = there s.document s.within }

module _ (In Into : Document → Type 0) (there : (d : Document) → In d → Into d) (back : (d : Document) → Into d → In d) where
  first_there : (tokens before : List Lexeme) (x : Lexeme) (p : Place) → IsFirstStop In tokens before x p → IsFirstStop Into tokens before x p
  first_there tokens before x p f = record {
    after = f.after;
    split = f.split;
    goes = ⊎_elim (λ e. inl e) (λ b. inr (begins_there In Into there _ b)) f.goes;
    stops = λ b. f.stops (begins_there Into In back _ b);
    here = f.here;
  }

  pub tells_there : (bytes : List ℕ) (o : Output) → TellsStop In bytes o → TellsStop Into bytes o
  tells_there bytes o (inl (s, e)) = inl (spells_there In Into there bytes s, e)
  tells_there bytes o (inr (p, inl (s, e))) = inr (p, inl (record { before = s.before; stop = s.stop; first = first_there _ s.before s.stop p s.first; none = s.none }, e))
  tells_there bytes o (inr (p, inr (s, e))) = inr (p, inr (record { before = s.before; stop = s.stop; first = first_there _ s.before s.stop p s.first; some = s.some }, e))

-- ---- the steps

pub stream_by_state : (holds : Holding) (rose : Type 0) (name document : List ℕ) (P : ProgramTree) (a : Automaton) (s : State) (o : Output) → is_defined P name ≡ true → IsAcceptor (names_of P) (type_named name) a s →
    StreamsByState a s holds rose document o → AnswersStream holds rose name document P o
stream_by_state holds rose name document P a s o defined acceptor (inl e) = inr (defined, inl e)
stream_by_state holds rose name document P a s o defined acceptor (inr h) = inr (defined, inr (h.0, h.1, tells_there (IsAccepted a s) (FitsType (names_of P) (type_named name)) there back h.0 o h.2))
  where
    there : (d : Document) → IsAccepted a s d → FitsType (names_of P) (type_named name) d
    there d i = record { proper = i.proper; fits = (acceptor.1 d).0 i.accepted }

    back : (d : Document) → FitsType (names_of P) (type_named name) d → IsAccepted a s d
    back d f = record { proper = f.proper; accepted = (acceptor.1 d).1 f.fits }

pub stream_later : (a b c : ℕ) {old new : Holding} (name document : List ℕ) (P : ProgramTree) (o : Output) → a ≤ b → new ≡ old → AnswersStream new (HasRisen b c) name document P o → AnswersStream old (HasRisen a c) name document P o
stream_later a b c {old} {new} name document P o le e (inl h) = inl h
stream_later a b c {old} {new} name document P o le e (inr (k, inl h)) = inr (k, inl (text_later a b c {old = old} {new = new} document document_limit o le e h))
stream_later a b c {old} {new} name document P o le e (inr (k, inr h)) = inr (k, inr (h.0, (subst (λ (x : Holding). IsHeld x document h.0) e h.1.0, h.1.1), h.2))

-- ---- the pieces of the bytes

-- the same bytes stop so
pub stops_too : (a b : Automaton) (s t : State) (fed bytes : List ℕ) (e : StreamError) → a ≡ b → s ≡ t → fed ≡ bytes → StopsAs a s fed e → StopsAs b t bytes e
stops_too a b s t fed bytes e automaton start all h =
    subst (λ (x : Automaton). StopsAs x t bytes e) automaton (subst (λ (x : State). StopsAs a x bytes e) start (subst (λ (xs : List ℕ). StopsAs a s xs e) all h))

pub spells_too : (a b : Automaton) (s t : State) (fed bytes : List ℕ) → a ≡ b → s ≡ t → fed ≡ bytes → SpellsAccepted a s fed → SpellsAccepted b t bytes
spells_too a b s t fed bytes automaton start all h =
    subst (λ (x : Automaton). SpellsAccepted x t bytes) automaton (subst (λ (x : State). SpellsAccepted a x bytes) start (subst (λ (xs : List ℕ). SpellsAccepted a s xs) all h))

pub nothing_more : (xs fed rest : List ℕ) → xs ≡ fed ++ rest → length rest ≡ 0 → fed ≡ xs
nothing_more xs fed rest e n = sym (e ∙ ap (λ (ys : List ℕ). fed ++ ys) (nil_from_length rest n) ∙ append-nil fed)
