-- What the steps of a command give.
use Rattle.std.proofs.Common.{◌≡◌, ℕ, ◌≤◌, inl, inr, Bool, true, false, cond, List, Result, Ok, Err, refl, sym, ap, subst, ◌∙◌, arith}
use Rattle.std.proofs.lemmas.Result.{err_from_is_err_and}
use Rattle.std.specs.Result.{IsErrAnd}
use Rattle.xd_base.specs.Outside.{HasRisen, IsLacking}
use Rattle.xd_doc.specs.Document.{Document}
use Rattle.xd_doc.proofs.Bools.{not_true_and_false}
use Rattle.xd_command_steps.specs.declared.output.Stop.{Stop}
use Rattle.xd_command_steps.specs.declared.output.Stop.TheVariants.{Refused, NoMemory}
use Rattle.xd_command_steps.specs.Output.{Output, yes, no}
use Rattle.xd_command_steps.specs.DoneSteps.{DoesStep}
use Rattle.xd_command_steps.specs.Texts.{Holding, IsHeld, EndsAtText, document_limit}
use Rattle.xd_command_steps.specs.Documents.{EndsAtDocument, IsDocument}
use Rattle.xd_auto.specs.Automaton.{Automaton, accepts}
use Rattle.xd_auto.specs.declared.auto.State.{State}
use Rattle.xd_syntax.specs.Program.{ProgramTree, names_of}
use Rattle.xd_syntax.specs.Sound.{is_defined, type_named}
use Rattle.xd_command_documents.specs.FitsByState.{AnswersByState, IsAcceptor}
use Rattle.xd_command_documents.specs.Fits.{AnswersFits, AnswersMembership}

-- a step ends where another does
pub ends-map : {A B : Type 0} (ends ends' : Output → Type 0) (finds : A → Type 0) (finds' : B → Type 0) (s : Stop) → ((o : Output) → ends o → ends' o) → DoesStep (Err s) ends finds → DoesStep (Err s) ends' finds'
ends-map ends ends' finds finds' (Refused o) f h = f o h
ends-map ends ends' finds finds' NoMemory f h = tt

-- the same, for what its `?` returns
pub ends-returned : {A B : Type 0} (ends ends' : Output → Type 0) (finds : A → Type 0) (finds' : B → Type 0) (s : Stop) (r : Result B Stop) → IsErrAnd r (λ t. t ≡ s) → ((o : Output) → ends o → ends' o) →
    DoesStep (Err s) ends finds → DoesStep r ends' finds'
ends-returned ends ends' finds finds' s r e f h =
    let p = err_from_is_err_and r e in
    subst (λ x. DoesStep x ends' finds') (sym (p.1 ∙ ap (λ t. Err t) p.2)) (ends-map ends ends' finds finds' s f h)

-- running out of memory, as its `?` returns it, is no end of a step
pub no-memory : {A : Type 0} (ends : Output → Type 0) (finds : A → Type 0) (r : Result A Stop) → IsErrAnd r (λ t. t ≡ NoMemory) → DoesStep r ends finds
no-memory ends finds r e =
    let p = err_from_is_err_and r e in
    subst (λ x. DoesStep x ends finds) (sym (p.1 ∙ ap (λ t. Err t) p.2)) tt

-- a step does what another does
pub does-map : {A : Type 0} (ends ends' : Output → Type 0) (finds finds' : A → Type 0) (r : Result A Stop) → ((o : Output) → ends o → ends' o) → ((x : A) → finds x → finds' x) → DoesStep r ends finds → DoesStep r ends' finds'
does-map ends ends' finds finds' (Ok x) f g h = g x h
does-map ends ends' finds finds' (Err (Refused o)) f g h = f o h
does-map ends ends' finds finds' (Err NoMemory) f g h = tt

-- a count that rises later has risen
risen_later : (a b c : ℕ) → a ≤ b → HasRisen b c → HasRisen a c
risen_later a b c le (inl lt) = inl (omega arith)
risen_later a b c le (inr top) = inr top

pub text_later : (a b c : ℕ) {old new : Holding} (name : List ℕ) (limit : ℕ) (o : Output) → a ≤ b → new ≡ old → EndsAtText new (HasRisen b c) name limit o → EndsAtText old (HasRisen a c) name limit o
text_later a b c {old} {new} name limit o le e (inl (inl r, w)) = inl (inl (risen_later a b c le r), w)
text_later a b c {old} {new} name limit o le e (inl (inr l, w)) = inl (inr (subst (λ h. IsLacking h name) e l), w)
text_later a b c {old} {new} name limit o le e (inr l) = inr (l.0, subst (λ h. IsHeld h name l.0) e l.1, l.2, l.3)

pub document_later : (a b c : ℕ) {old new : Holding} (file : List ℕ) (o : Output) → a ≤ b → new ≡ old → EndsAtDocument new (HasRisen b c) file o → EndsAtDocument old (HasRisen a c) file o
document_later a b c {old} {new} file o le e (inl h) = inl (text_later a b c {old = old} {new = new} file document_limit o le e h)
document_later a b c {old} {new} file o le e (inr h) = inr (h.0, (subst (λ x. IsHeld x file h.0) e h.1.0, h.1.1), h.2)

pub document_same : {old new : Holding} (file : List ℕ) (d : Document) → new ≡ old → IsDocument new file d → IsDocument old file d
document_same {old} {new} file d e h = subst (λ x. IsDocument x file d) e h

pub fits_later : (a b c : ℕ) {old new : Holding} (name document : List ℕ) (P : ProgramTree) (o : Output) → a ≤ b → new ≡ old → AnswersFits new (HasRisen b c) name document P o → AnswersFits old (HasRisen a c) name document P o
fits_later a b c {old} {new} name document P o le e (inl h) = inl h
fits_later a b c {old} {new} name document P o le e (inr (k, inl h)) = inr (k, inl (document_later a b c {old = old} {new = new} document o le e h))
fits_later a b c {old} {new} name document P o le e (inr (k, inr h)) = inr (k, inr (h.0, document_same {old = old} {new = new} document h.0 e h.1, h.2))

-- a document that a state accepts fits the type that it stands for
pub fits_by_state : (holds : Holding) (rose : Type 0) (name document : List ℕ) (P : ProgramTree) (a : Automaton) (s : State) (o : Output) → is_defined P name ≡ true → IsAcceptor (names_of P) (type_named name) a s →
    AnswersByState a s holds rose document o → AnswersFits holds rose name document P o
fits_by_state holds rose name document P a s o defined acceptor (inl e) = inr (defined, inl e)
fits_by_state holds rose name document P a s o defined acceptor (inr h) = inr (defined, inr (h.0, h.1, tells (accepts a h.0 s) refl h.2))
  where
    tells : (b : Bool) → accepts a h.0 s ≡ b → o ≡ cond b yes no → AnswersMembership P name h.0 o
    tells true e t = inl ((acceptor.1 h.0).0 e, t)
    tells false e t = inr ((λ f. not_true_and_false (sym e ∙ (acceptor.1 h.0).1 f)), t)
