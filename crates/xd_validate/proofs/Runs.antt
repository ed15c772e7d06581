-- What is told of documents, one after the other.
use Rattle.std.proofs.Common.{◌≡◌, ℕ, ◌≤◌, ◌⊎◌, inl, inr, List, [], ◌∷◌, ◌++◌, Option, Some, None, refl, sym, ap, subst, ◌∙◌, arith, append_assoc}
use Rattle.std.proofs.lemmas.List.{append-nil}
use Rattle.xd_auto.specs.Automaton.{Automaton}
use Rattle.xd_auto.specs.declared.auto.State.{State}
use Rattle.xd_base.specs.Outside.{HasGrown, HasRisen}
use Rattle.xd_doc.specs.Document.{Document}
use Rattle.xd_stream.specs.StopByState.{IsAccepted}
use Rattle.xd_syntax.specs.Program.{ProgramTree, names_of}
use Rattle.xd_syntax.specs.Sound.{type_named}
use Rattle.xd_command_steps.specs.Output.{Output}
use Rattle.xd_command_steps.specs.Texts.{Holding}
use Rattle.xd_command_documents.specs.Fits.{FitsType}
use Rattle.xd_command_documents.specs.FitsByState.{IsAcceptor}
use Rattle.xd_command_steps.proofs.Growth.{HasGrown-then}
use Rattle.xd_validate.specs.Answers.{AreTold, EndsAll, IsCutOff, IsTold, IsToldSoFar, joined, status_from, text_of}
use Rattle.xd_validate.proofs.Tellings.{risen-later, told-for, told-there}

-- nothing is written
pub grown-nothing : (w : Option (List ℕ)) → HasGrown w w []
grown-nothing (Some xs) = sym (append-nil xs)
grown-nothing None = tt

-- ---- what is told of one more

pub told-longer : (In : Document → Type 0) (holds : Holding) (from till later : ℕ) (names : List (List ℕ)) (os : List Output) → till ≤ later → AreTold In holds from till names os → AreTold In holds from later names os
told-longer In holds from till later [] [] le h = omega arith
told-longer In holds from till later [] (o ∷ os) le h = h
told-longer In holds from till later (n ∷ ns) [] le h = h
told-longer In holds from till later (n ∷ ns) (o ∷ os) le h = (h.0, h.1, h.2, told-longer In holds h.0 till later ns os le h.3)

pub told-then : (In : Document → Type 0) (holds : Holding) (from mid till : ℕ) (names : List (List ℕ)) (os : List Output) (n : List ℕ) (o : Output) →
    AreTold In holds from mid names os → mid ≤ till → IsTold In holds (HasRisen mid till) n o → AreTold In holds from till (names ++ n ∷ []) (os ++ o ∷ [])
told-then In holds from mid till [] [] n o h le t =
    let first : from ≤ till = omega arith in
    let last : till ≤ till = omega arith in
    (till, first, told-for In holds (HasRisen mid till) (HasRisen from till) n o (λ r. risen-later from mid till h r) t, last)
told-then In holds from mid till [] (p ∷ os) n o h le t = absurd h
told-then In holds from mid till (m ∷ ns) [] n o h le t = absurd h
told-then In holds from mid till (m ∷ ns) (p ∷ os) n o h le t = (h.0, h.1, h.2, told-then In holds h.0 mid till ns os n o h.3 le t)

pub text-then : (os : List Output) (o : Output) → text_of (os ++ o ∷ []) ≡ text_of os ++ o.text
text-then [] o = append-nil o.text
text-then (p ∷ os) o = ap (λ (xs : List ℕ). p.text ++ xs) (text-then os o) ∙ sym (append_assoc p.text (text_of os) o.text)

pub status-then : (s : ℕ) (os : List Output) (o : Output) → status_from s (os ++ o ∷ []) ≡ joined (status_from s os) o.status
status-then s [] o = refl
status-then s (p ∷ os) o = status-then (joined s p.status) os o

-- ---- another set with the same documents

module _ (In Into : Document → Type 0) (there : (d : Document) → In d → Into d) (back : (d : Document) → Into d → In d) where
  are-there : (holds : Holding) (from till : ℕ) (names : List (List ℕ)) (os : List Output) → AreTold In holds from till names os → AreTold Into holds from till names os
  are-there holds from till [] [] h = h
  are-there holds from till [] (o ∷ os) h = h
  are-there holds from till (n ∷ ns) [] h = h
  are-there holds from till (n ∷ ns) (o ∷ os) h = (h.0, h.1, told-there In Into there back holds (HasRisen from h.0) n o h.2, are-there holds h.0 till ns os h.3)

  so-far-there : (holds : Holding) (from till : ℕ) (names : List (List ℕ)) (os : List Output) → IsToldSoFar In holds from till names os → IsToldSoFar Into holds from till names os
  so-far-there holds from till names os h = record { done = h.done; others = h.others; split = h.split; told = are-there holds from till h.done os h.told }

  ends-there : (holds : Holding) (from till : ℕ) (rose : Type 0) (before after : Option (List ℕ)) (names : List (List ℕ)) (code : ℕ) → EndsAll In holds from till rose before after names code → EndsAll Into holds from till rose before after names code
  ends-there holds from till rose before after names code (inl h) = inl (h.0, are-there holds from till names h.0 h.1, h.2, h.3)
  ends-there holds from till rose before after names code (inr h) = inr (h.0, so-far-there holds from till names h.0 h.1, h.2)

-- a state that accepts what fits a type tells whether documents fit it
pub ends-by-type : (P : ProgramTree) (name : List ℕ) (a : Automaton) (s : State) (holds : Holding) (from till : ℕ) (rose : Type 0) (before after : Option (List ℕ)) (names : List (List ℕ)) (code : ℕ) → IsAcceptor (names_of P) (type_named name) a s →
    EndsAll (IsAccepted a s) holds from till rose before after names code → EndsAll (FitsType (names_of P) (type_named name)) holds from till rose before after names code
ends-by-type P name a s holds from till rose before after names code acceptor h = ends-there (IsAccepted a s) (FitsType (names_of P) (type_named name)) there back holds from till rose before after names code h
  where
    there : (d : Document) → IsAccepted a s d → FitsType (names_of P) (type_named name) d
    there d i = record { proper = i.proper; fits = (acceptor.1 d).0 i.accepted }

    back : (d : Document) → FitsType (names_of P) (type_named name) d → IsAccepted a s d
    back d f = record { proper = f.proper; accepted = (acceptor.1 d).1 f.fits }

-- ---- the ends of a run

pub split-then : (names done rest rest' : List (List ℕ)) (n : List ℕ) → names ≡ done ++ rest → rest ≡ n ∷ rest' → names ≡ (done ++ n ∷ []) ++ rest'
split-then names done rest rest' n e f = e ∙ ap (λ (r : List (List ℕ)). done ++ r) f ∙ sym (append_assoc done (n ∷ []) rest')

-- what is written and held back, one line on
pub lines-then : (lines : List Output) (o : Output) (sent held held' : List ℕ) → text_of lines ≡ sent ++ held → held' ≡ held ++ o.text → text_of (lines ++ o ∷ []) ≡ sent ++ held'
lines-then lines o sent held held' e f = text-then lines o ∙ ap (λ (t : List ℕ). t ++ o.text) e ∙ append_assoc sent held o.text ∙ ap (λ (t : List ℕ). sent ++ t) (sym f)

-- what is held back was written, too
pub grown-all : (a b c : Option (List ℕ)) (text sent held : List ℕ) → text ≡ sent ++ held → HasGrown a b sent → HasGrown b c held → HasGrown a c text
grown-all a b c text sent held e g h = subst (λ (t : List ℕ). HasGrown a c t) (sym e) (HasGrown-then a b c sent held g h)

-- what is held back was cut off
pub cut-all : (from mid till : ℕ) (a b c : Option (List ℕ)) (text sent held : List ℕ) → from ≤ mid → text ≡ sent ++ held → HasGrown a b sent → IsCutOff (HasRisen mid till) b c held → IsCutOff (HasRisen from till) a c text
cut-all from mid till a b c text sent held le e g cut =
    let front = cut.1.0 in
    let rest = cut.1.1 in
    let whole : text ≡ (sent ++ front) ++ rest = e ∙ ap (λ (t : List ℕ). sent ++ t) cut.1.3 ∙ sym (append_assoc sent front rest) in
    (risen-later from mid till le cut.0, (sent ++ front, rest, cut.1.2, whole, HasGrown-then a b c sent front g cut.1.4))

module _ (In : Document → Type 0) (holds : Holding) (from mid till : ℕ) (names done rest : List (List ℕ)) (lines : List Output) (split : names ≡ done ++ rest) (told : AreTold In holds from mid done lines) (le : mid ≤ till) where
  pub so-far : IsToldSoFar In holds from till names lines
  so-far = record { done = done; others = rest; split = split; told = told-longer In holds from mid till done lines le told }

  -- memory ran out, and what is held back was written or not
  pub ends-early : (code s : ℕ) (f g h : ℕ) (a b c : Option (List ℕ)) (sent held : List ℕ) → s ≡ 5 → f ≤ g → text_of lines ≡ sent ++ held → HasGrown a b sent →
      ((code ≡ s) × HasGrown b c held) ⊎ ((code ≡ 4) × IsCutOff (HasRisen g h) b c held) → EndsAll In holds from till (HasRisen f h) a c names code
  ends-early code s f g h a b c sent held five fg e grown (inl w) = inr (lines, so-far, inl (w.0 ∙ five, grown-all a b c (text_of lines) sent held e grown w.1))
  ends-early code s f g h a b c sent held five fg e grown (inr w) = inr (lines, so-far, inr (w.0, cut-all f g h a b c (text_of lines) sent held fg e grown w.1))

  -- all were gone through
  pub ends-whole : (code s : ℕ) (f g h : ℕ) (a b c : Option (List ℕ)) (sent held : List ℕ) → rest ≡ [] → s ≡ status_from 0 lines → f ≤ g → text_of lines ≡ sent ++ held → HasGrown a b sent →
      ((code ≡ s) × HasGrown b c held) ⊎ ((code ≡ 4) × IsCutOff (HasRisen g h) b c held) → EndsAll In holds from till (HasRisen f h) a c names code
  ends-whole code s f g h a b c sent held none status fg e grown (inl w) =
      let all : done ≡ names = sym (split ∙ ap (λ (r : List (List ℕ)). done ++ r) none ∙ append-nil done) in
      inl (lines, subst (λ (ns : List (List ℕ)). AreTold In holds from till ns lines) all (told-longer In holds from mid till done lines le told), w.0 ∙ status, grown-all a b c (text_of lines) sent held e grown w.1)
  ends-whole code s f g h a b c sent held none status fg e grown (inr w) = inr (lines, so-far, inr (w.0, cut-all f g h a b c (text_of lines) sent held fg e grown w.1))
