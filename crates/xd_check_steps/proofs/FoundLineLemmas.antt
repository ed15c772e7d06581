-- Found lines as faults and as warnings.
use Rattle.std.proofs.Common.{◌≡◌, ℕ, ◌+◌, ◌<◌, List, [], ◌∷◌, ◌++◌, get_or, drop, length, Some, None, refl, ap, sym, subst, ◌∙◌, append_assoc}
use Rattle.std.proofs.lemmas.List.{drop_more}
use Rattle.xd_base.specs.declared.Place.{Place}
use Rattle.xd_doc.specs.Document.{Document}
use Rattle.xd_doc.proofs.Options.{some_same}
use Rattle.xd_syntax.specs.CheckFaults.{faults_among}
use Rattle.xd_syntax.specs.declared.fault.Fault.{Fault}
use Rattle.xd_syntax.specs.declared.fault.Warning.{Warning}
use Rattle.xd_syntax.specs.declared.fault.FaultKind.{FaultKind}
use Rattle.xd_meaning.specs.KeptFaults.{AllPaired, warnings_among}
use Rattle.xd_meaning.specs.KeptLines.{IsFaultOf, IsWarningOf}
use Rattle.xd_check_steps.specs.declared.lines.Finding.{Finding}
use Rattle.xd_check_steps.specs.declared.lines.Finding.TheVariants.{NotExhaustive, Argument, Result, DeadClause}
use Rattle.xd_check_steps.specs.declared.lines.FoundLine.{FoundLine}
use Rattle.xd_check_steps.specs.FoundLines.{FindingBelongs, LinesBelong, fault_kind_of, lines_of}

abbrev pub FaultsTell : List Document → List FoundLine → List Fault → Type 0
FaultsTell ds ls fs = AllPaired (IsFaultOf ds) (faults_among (lines_of ds ls)) fs

abbrev pub WarningsTell : List Document → List FoundLine → List Warning → Type 0
WarningsTell ds ls ws = AllPaired IsWarningOf (warnings_among (lines_of ds ls)) ws

-- one more line that is a fault
fault_told : (ds : List Document) (p : Place) (f : Finding) (k : FaultKind) (ls : List FoundLine) → fault_kind_of f ≡ Some k → FindingBelongs ds f → (fs : List Fault) → FaultsTell ds ls fs →
    FaultsTell ds (record { place = p; finding = f } ∷ ls) (record { place = Some p; kind = k } ∷ fs)
fault_told ds p (NotExhaustive seq) k ls e b fs h = (record { sequence = seq; belongs = b; placed = refl; kind = sym (some_same _ _ e); document = refl }, h)
fault_told ds p (Argument seq) k ls e b fs h = (record { sequence = seq; belongs = b; placed = refl; kind = sym (some_same _ _ e); document = refl }, h)
fault_told ds p (Result seq) k ls e b fs h = (record { sequence = seq; belongs = b; placed = refl; kind = sym (some_same _ _ e); document = refl }, h)
fault_told ds p DeadClause k ls e b fs h = absurd (cc)

-- it is no warning
fault_passed : (ds : List Document) (p : Place) (f : Finding) (k : FaultKind) (ls : List FoundLine) → fault_kind_of f ≡ Some k → (ws : List Warning) → WarningsTell ds ls ws →
    WarningsTell ds (record { place = p; finding = f } ∷ ls) ws
fault_passed ds p (NotExhaustive seq) k ls e ws h = h
fault_passed ds p (Argument seq) k ls e ws h = h
fault_passed ds p (Result seq) k ls e ws h = h
fault_passed ds p DeadClause k ls e ws h = absurd (cc)

warning_told : (ds : List Document) (p : Place) (f : Finding) (ls : List FoundLine) → fault_kind_of f ≡ None → (ws : List Warning) → WarningsTell ds ls ws →
    WarningsTell ds (record { place = p; finding = f } ∷ ls) (record { place = p } ∷ ws)
warning_told ds p (NotExhaustive seq) ls e ws h = absurd (cc)
warning_told ds p (Argument seq) ls e ws h = absurd (cc)
warning_told ds p (Result seq) ls e ws h = absurd (cc)
warning_told ds p DeadClause ls e ws h = (refl, h)

warning_passed : (ds : List Document) (p : Place) (f : Finding) (ls : List FoundLine) → fault_kind_of f ≡ None → (fs : List Fault) → FaultsTell ds ls fs →
    FaultsTell ds (record { place = p; finding = f } ∷ ls) fs
warning_passed ds p (NotExhaustive seq) ls e fs h = absurd (cc)
warning_passed ds p (Argument seq) ls e fs h = absurd (cc)
warning_passed ds p (Result seq) ls e fs h = absurd (cc)
warning_passed ds p DeadClause ls e fs h = h

-- The lines from the n-th on are still to be told.
pub record AreTold (ls : List FoundLine) (n : ℕ) (fs : List Fault) (ws : List Warning) : Type 0 where
  pub faults : (ds : List Document) → LinesBelong ds ls → LinesBelong ds (drop n ls) × ((gs : List Fault) → FaultsTell ds (drop n ls) gs → FaultsTell ds ls (fs ++ gs))
  pub warnings : (ds : List Document) (us : List Warning) → WarningsTell ds (drop n ls) us → WarningsTell ds ls (ws ++ us)

pub none_told : (ls : List FoundLine) → AreTold ls 0 [] []
none_told ls = record { faults = λ ds b. (b, λ gs h. h); warnings = λ ds us h. h }

pub fault_more : (ls : List FoundLine) (n : ℕ) (fs new : List Fault) (ws : List Warning) (l : FoundLine) (k : FaultKind) → n < length ls → AreTold ls n fs ws → l ≡ get_or ls n l →
    fault_kind_of l.finding ≡ Some k → new ≡ fs ++ record { place = Some l.place; kind = k } ∷ [] → AreTold ls (n + 1) new ws
fault_more ls n fs new ws l k i a e q r =
    let d : drop n ls ≡ l ∷ drop (n + 1) ls = drop_more ls n l i ∙ ap (λ m. m ∷ drop (n + 1) ls) (sym e) in
    let f : Fault = record { place = Some l.place; kind = k } in
    record {
      faults = λ ds b. (let h = a.faults ds b in
          let c : LinesBelong ds (l ∷ drop (n + 1) ls) = subst (LinesBelong ds) d h.0 in (
            c.1,
            λ gs t. (let u : FaultsTell ds (drop n ls) (f ∷ gs) = subst (λ ms. FaultsTell ds ms (f ∷ gs)) (sym d) (fault_told ds l.place l.finding k (drop (n + 1) ls) q c.0 gs t) in
                subst (FaultsTell ds ls) (sym (ap (λ xs. xs ++ gs) r ∙ append_assoc fs (f ∷ []) gs)) (h.1 (f ∷ gs) u)),
          ));
      warnings = λ ds us t. a.warnings ds us (subst (λ ms. WarningsTell ds ms us) (sym d) (fault_passed ds l.place l.finding k (drop (n + 1) ls) q us t));
    }

pub warning_more : (ls : List FoundLine) (n : ℕ) (fs : List Fault) (ws new : List Warning) (l : FoundLine) → n < length ls → AreTold ls n fs ws → l ≡ get_or ls n l →
    fault_kind_of l.finding ≡ None → new ≡ ws ++ record { place = l.place } ∷ [] → AreTold ls (n + 1) fs new
warning_more ls n fs ws new l i a e q r =
    let d : drop n ls ≡ l ∷ drop (n + 1) ls = drop_more ls n l i ∙ ap (λ m. m ∷ drop (n + 1) ls) (sym e) in
    let w : Warning = record { place = l.place } in
    record {
      faults = λ ds b. (let h = a.faults ds b in
          let c : LinesBelong ds (l ∷ drop (n + 1) ls) = subst (LinesBelong ds) d h.0 in
          (c.1, λ gs t. h.1 gs (subst (λ ms. FaultsTell ds ms gs) (sym d) (warning_passed ds l.place l.finding (drop (n + 1) ls) q gs t))));
      warnings = λ ds us t. (let u : WarningsTell ds (drop n ls) (w ∷ us) = subst (λ ms. WarningsTell ds ms (w ∷ us)) (sym d) (warning_told ds l.place l.finding (drop (n + 1) ls) q us t) in
          subst (WarningsTell ds ls) (sym (ap (λ xs. xs ++ us) r ∙ append_assoc ws (w ∷ []) us)) (a.warnings ds (w ∷ us) u));
    }
