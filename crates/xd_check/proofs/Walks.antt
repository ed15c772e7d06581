-- What the walk of an expression gives, from what those of its parts give.
use Rattle.std.proofs.Common.{◌≡◌, ◌↔◌, ℕ, true, ◌&&◌, List, [], ◌∷◌, ◌++◌, refl, ap, sym, subst, ◌∙◌}
use Rattle.std.specs.List.{AllByRecursion}
use Rattle.xd_base.specs.declared.Place.{Place}
use Rattle.xd_doc.specs.Word.{is_word}
use Rattle.xd_doc.specs.Document.{Document, empty, text, element, join, is_proper}
use Rattle.xd_doc.proofs.Bools.{and_parts}
use Rattle.xd_doc.proofs.StoredLemmas.{Keeps-same}
use Rattle.xd_doc.proofs.Joins.{join_empty-right}
use Rattle.xd_auto.specs.declared.auto.State.{State}
use Rattle.xd_auto.specs.Automaton.{Automaton, IsState, IsWrapped, accepts}
use Rattle.xd_syntax.specs.Expression.{Expression, Nothing, Quoted, Variable, Tagged, place_of_expression, joined}
use Rattle.xd_syntax.specs.Program.{ProgramTree}
use Rattle.xd_syntax.specs.May.{Scope, May, IsTagged}
use Rattle.xd_syntax.specs.Kept.{ProgramTable, program_tree}
use Rattle.xd_check_steps.specs.Found.{Found, Seen, followed}
use Rattle.xd_meaning.specs.KeptFaults.{AllPaired}
use Rattle.xd_laws.proofs.BoundVariables.{proper_joined}
use Rattle.xd_check_steps.specs.declared.variables.Variable as V
use Rattle.xd_check_steps.specs.InScope.{AcceptedBy, ScopeStands, state_of}
use Rattle.xd_check_steps.specs.States.{AcceptedInTurn, AcceptsJust, Grows}
use Rattle.xd_check.specs.Walked.{ArePartsWalked, IsWalked, SeenIn, SeenInParts}
use Rattle.xd_check_steps.proofs.AddsFoundLemmas.{adds_as, adds_kept, adds_none, followed_none}
use Rattle.xd_check_steps.proofs.GrowsLemmas.{just_kept}

abbrev JustNone : Seen → Type 0
JustNone s = (s.lines ≡ []) × (s.matches ≡ [])

pub walked_nothing : (p : ProgramTable) (S : Scope) (q : Place) (a : Automaton) (ds : List Document) (f : Found) (s : State) → ((d : Document) → (accepts a d s ≡ true) ↔ (d ≡ empty)) →
    IsWalked p S (Nothing q) a ds f f s
walked_nothing p S q a ds f s h = record { may = λ d i. h d; found = adds_none JustNone (refl, refl) f }

pub walked_quoted : (p : ProgramTable) (S : Scope) (q : Place) (t : List ℕ) (a : Automaton) (ds : List Document) (f : Found) (s : State) →
    ((d : Document) → (accepts a d s ≡ true) ↔ (d ≡ text t empty)) → IsWalked p S (Quoted q t) a ds f f s
walked_quoted p S q t a ds f s h = record { may = λ d i. h d; found = adds_none JustNone (refl, refl) f }

pub walked_variable : (p : ProgramTable) (S : Scope) (q : Place) (x : List ℕ) (a b : Automaton) (vs : List V.Variable) (ds : List Document) (f : Found) (s : State) →
    ScopeStands (program_tree p) S a vs → ((d : Document) → (accepts b d s ≡ true) ↔ AcceptedBy a (state_of vs x) d) → IsWalked p S (Variable q x) b ds f f s
walked_variable p S q x a b vs ds f s stands h = record {
  may = λ d i. ((λ m. (stands x d i).0 ((h d).0 m)), (λ m. (h d).1 ((stands x d i).1 m)));
  found = adds_none JustNone (refl, refl) f;
}

tagged_from : (l : List ℕ) (A : Document → Type 0) (a : Automaton) (s : State) → AcceptsJust a s A → (d : Document) → is_proper d ≡ true → IsWrapped a l s d → IsTagged l A d
tagged_from l A a s h d p w =
    let q : is_proper (element l w.inside empty) ≡ true = sym (ap is_proper w.is) ∙ p in
    let i = and_parts (is_word l) (is_proper w.inside && true) q in
    let j = and_parts (is_proper w.inside) true i.1 in
    subst (IsTagged l A) (sym w.is) (refl, refl, (h w.inside j.0).0 w.accepted)

tagged_to : (l : List ℕ) (A : Document → Type 0) (a : Automaton) (s : State) → AcceptsJust a s A → (d : Document) → is_proper d ≡ true → IsTagged l A d → IsWrapped a l s d
tagged_to l A a s h empty p m = absurd m
tagged_to l A a s h (text t r) p m = absurd m
tagged_to l A a s h (element k c r) p m =
    let i = and_parts (is_word k) (is_proper c && is_proper r) p in
    let j = and_parts (is_proper c) (is_proper r) i.1 in
    record { inside = c; is = ap (λ w. element w c r) m.0 ∙ ap (element l c) m.1; accepted = (h c j.0).1 m.2 }

pub walked_tagged : (p : ProgramTable) (S : Scope) (q : Place) (l : List ℕ) (e : Expression) (a b : Automaton) (ds : List Document) (old new : Found) (s t : State) →
    Grows a b → IsWalked p S e a ds old new s → ((d : Document) → (accepts b d t ≡ true) ↔ IsWrapped a l s d) → IsWalked p S (Tagged q l e) b ds old new t
walked_tagged p S q l e a b ds old new s t g w h = record {
  may = λ d i. ((λ m. tagged_from l (May (program_tree p) S e) a s w.may d i ((h d).0 m)), (λ m. (h d).1 (tagged_to l (May (program_tree p) S e) a s w.may d i m)));
  found = adds_kept g (Keeps-same ds) (SeenIn (program_tree p) S e) w.found;
}

abbrev PairsMay : ProgramTree → Scope → Automaton → List Expression → List State → Type 0
PairsMay P S a es ss = AllPaired (λ (e : Expression) (s : State). AcceptsJust a s (May P S e)) es ss

turn_from : (P : ProgramTree) (S : Scope) (q : Place) (a : Automaton) (es : List Expression) (ss : List State) → PairsMay P S a es ss → (d : Document) → is_proper d ≡ true → AcceptedInTurn a ss d → May P S (joined q es) d
turn_from P S q a [] [] h d p m = m
turn_from P S q a [] (s ∷ ss) h d p m = absurd h
turn_from P S q a (e ∷ es) [] h d p m = absurd h
turn_from P S q a (e ∷ []) (s ∷ []) h d p m =
    let i : m.0 ≡ d = sym (join_empty-right m.0) ∙ ap (join m.0) (sym m.4) ∙ m.2 in
    let k : is_proper m.0 ≡ true = ap is_proper i ∙ p in
    subst (May P S e) i ((h.0 m.0 k).0 m.3)
turn_from P S q a (e ∷ []) (s ∷ (t ∷ ts)) h d p m = absurd h.1
turn_from P S q a (e ∷ (f ∷ fs)) (s ∷ ss) h d p m =
    let k = proper_joined m.0 m.1 (ap is_proper m.2 ∙ p) in
    (m.0, m.1, m.2, (h.0 m.0 k.0).0 m.3, turn_from P S (place_of_expression f) a (f ∷ fs) ss h.1 m.1 k.1 m.4)

turn_to : (P : ProgramTree) (S : Scope) (q : Place) (a : Automaton) (es : List Expression) (ss : List State) → PairsMay P S a es ss → (d : Document) → is_proper d ≡ true → May P S (joined q es) d → AcceptedInTurn a ss d
turn_to P S q a [] [] h d p m = m
turn_to P S q a [] (s ∷ ss) h d p m = absurd h
turn_to P S q a (e ∷ es) [] h d p m = absurd h
turn_to P S q a (e ∷ []) (s ∷ []) h d p m = (d, empty, join_empty-right d, (h.0 d p).1 m, refl)
turn_to P S q a (e ∷ []) (s ∷ (t ∷ ts)) h d p m = absurd h.1
turn_to P S q a (e ∷ (f ∷ fs)) (s ∷ ss) h d p m =
    let k = proper_joined m.0 m.1 (ap is_proper m.2 ∙ p) in
    (m.0, m.1, m.2, (h.0 m.0 k.0).1 m.3, turn_to P S (place_of_expression f) a (f ∷ fs) ss h.1 m.1 k.1 m.4)

seen_joined : (P : ProgramTree) (S : Scope) (q : Place) (es : List Expression) (s : Seen) → SeenInParts P S es s → SeenIn P S (joined q es) s
seen_joined P S q [] s h = (ap (λ (t : Seen). t.lines) h, ap (λ (t : Seen). t.matches) h)
seen_joined P S q (e ∷ []) s h = subst (SeenIn P S e) (sym (h.4 ∙ ap (followed h.0) h.3 ∙ followed_none h.0)) h.2
seen_joined P S q (e ∷ (f ∷ fs)) s h =
    let r = seen_joined P S (place_of_expression f) (f ∷ fs) h.1 h.3 in (
      ((h.0).lines, (h.1).lines, (h.2).0, r.0, ap (λ (t : Seen). t.lines) h.4),
      ((h.0).matches, (h.1).matches, (h.2).1, r.1, ap (λ (t : Seen). t.matches) h.4),
    )

pub walked_joined : (p : ProgramTable) (S : Scope) (q : Place) (es : List Expression) (a b : Automaton) (ds : List Document) (old new : Found) (ss : List State) (t : State) →
    Grows a b → ArePartsWalked p S es a ds old new ss → ((d : Document) → (accepts b d t ≡ true) ↔ AcceptedInTurn a ss d) → IsWalked p S (joined q es) b ds old new t
walked_joined p S q es a b ds old new ss t g w h = record {
  may = λ d i. ((λ m. turn_from (program_tree p) S q a es ss w.may d i ((h d).0 m)), (λ m. (h d).1 (turn_to (program_tree p) S q a es ss w.may d i m)));
  found = adds_as (SeenInParts (program_tree p) S es) (SeenIn (program_tree p) S (joined q es)) (seen_joined (program_tree p) S q es) (adds_kept g (Keeps-same ds) (SeenInParts (program_tree p) S es) w.found);
}

pub pairs_kept : (P : ProgramTree) (S : Scope) (a b : Automaton) → Grows a b → (es : List Expression) (ss : List State) → AllByRecursion (IsState a) ss → PairsMay P S a es ss → PairsMay P S b es ss
pairs_kept P S a b g [] [] i h = tt
pairs_kept P S a b g [] (s ∷ ss) i h = absurd h
pairs_kept P S a b g (e ∷ es) [] i h = absurd h
pairs_kept P S a b g (e ∷ es) (s ∷ ss) i h = (just_kept a b g s (May P S e) i.0 h.0, pairs_kept P S a b g es ss i.1 h.1)

pub pairs_push : (P : ProgramTree) (S : Scope) (a : Automaton) (es : List Expression) (ss : List State) (e : Expression) (s : State) → PairsMay P S a es ss → AcceptsJust a s (May P S e) → PairsMay P S a (es ++ e ∷ []) (ss ++ s ∷ [])
pairs_push P S a [] [] e s h k = (k, tt)
pairs_push P S a [] (t ∷ ts) e s h k = absurd h
pairs_push P S a (f ∷ fs) [] e s h k = absurd h
pairs_push P S a (f ∷ fs) (t ∷ ts) e s h k = (h.0, pairs_push P S a fs ts e s h.1 k)
