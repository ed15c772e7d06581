-- Clauses of a match: what comes to each, and what its variables may be.
use Rattle.std.proofs.Common.{◌≡◌, ◌≢◌, ◌↔◌, ℕ, true, false, ◌||◌, ◌⊎◌, List, [], ◌∷◌, ◌++◌, map, Bool, cond, inl, inr, Option, Some, None, refl, ap, sym, subst, ◌∙◌}
use Rattle.std.specs.List.{AllByRecursion}
use Rattle.std.specs.Str.{bytes_eq}
use Rattle.xd_base.specs.declared.Place.{Place}
use Rattle.xd_doc.specs.Document.{Document, is_proper}
use Rattle.xd_doc.specs.StoreNodes.{Keeps}
use Rattle.xd_doc.proofs.StoredLemmas.{Keeps-same}
use Rattle.xd_auto.specs.declared.auto.State.{State}
use Rattle.xd_auto.specs.Automaton.{Automaton, IsState, accepts}
use Rattle.xd_syntax.specs.Words.{has_word}
use Rattle.xd_syntax.specs.Tree.{Definitions, occurrences}
use Rattle.xd_syntax.specs.Placed.{PlacedTree, unplaced, variables, place_of}
use Rattle.xd_meaning.specs.Bindings.{variables_of}
use Rattle.xd_syntax.specs.Ways.{Takes}
use Rattle.xd_syntax.specs.Expression.{Expression, Matched, Clauses, no_clause, clause}
use Rattle.xd_syntax.specs.Program.{ProgramTree, names_of}
use Rattle.xd_syntax.specs.May.{Scope, clause_entry, Allows, Arrives, IsLive, May, MayBind, WhereTrue}
use Rattle.xd_laws.specs.Scopes.{MayClauses}
use Rattle.xd_syntax.specs.CheckFaults.{Line, Comes, IsLiveIn, LineWhere, dead_clause, not_exhaustive}
use Rattle.xd_syntax.specs.Kept.{ProgramTable, program_tree}
use Rattle.xd_syntax.specs.Matches.{SeenMatch}
use Rattle.xd_laws.proofs.Unfoldings.{same_word_eq}
use Rattle.xd_laws.proofs.OrderedBindings.{has_once, once_has}
use Rattle.xd_check_steps.specs.declared.findings.MetMatch.{MetMatch}
use Rattle.xd_check_steps.specs.declared.lines.FoundLine.{FoundLine}
use Rattle.xd_check_steps.specs.declared.variables.Variable.{Variable}
use Rattle.xd_laws.proofs.SameScopes.{line_within}
use Rattle.xd_check_steps.specs.Found.{AddsFound, Found, IsMet, JustLines, Seen, followed}
use Rattle.xd_check_steps.specs.FoundLines.{AddsLines, told_size}
use Rattle.xd_check_steps.specs.InScope.{AcceptedBy, ScopeStands, state_of}
use Rattle.xd_check_steps.specs.States.{AcceptedBySome, AcceptsJust, Grows, with_found}
use Rattle.xd_check.specs.Walked.{AreClausesWalked, ComesBehind, ComesTo, IsClauseWalked, IsWalked, SeenIn, SeenInClause, SeenInClauses}
use Rattle.xd_check_steps.proofs.AddsFoundLemmas.{Begins, Goes, adds_as, adds_before, adds_kept, adds_lines, adds_more, goes_begin, goes_end, goes_more}

-- the same documents come
pub comes_like : (P : ProgramTree) (S : Scope) (e : Expression) (earlier : List PlacedTree) (C D : Document → Type 0) → ((d : Document) → D d ↔ C d) → ComesBehind P S e earlier C → ComesBehind P S e earlier D
comes_like P S e earlier C D same comes d p = let x = same d in let y = comes d p in (λ m. y.0 (x.0 m), λ m. x.1 (y.1 m))

-- what is the same among the documents that a further pattern takes comes to that
pub comes_among : (P : ProgramTree) (S : Scope) (e : Expression) (earlier : List PlacedTree) (B C : Document → Type 0) (Q : PlacedTree) → ComesBehind P S e earlier B → ((d : Document) → Takes (names_of P) (unplaced Q) d → C d ↔ B d) → ComesTo P S e earlier Q C
comes_among P S e earlier B C Q comes among d p t = let i = among d t in let j = comes d p in (λ m. j.0 (i.0 m), λ m. i.1 (j.1 m))

module _ (P : ProgramTree) (S : Scope) (e : Expression) (earlier : List PlacedTree) (C : Document → Type 0) (comes : ComesBehind P S e earlier C) where
  -- what is left comes after the pattern too, where nothing was taken away for a dead clause
  pub passed : (Q : PlacedTree) (o : Option State) (D : Document → Type 0) → (o ≡ None → IsLiveIn P S e earlier Q → ⊥) → ((d : Document) → D d ↔ (C d × (o ≢ None → Takes (names_of P) (unplaced Q) d → ⊥))) → ComesBehind P S e (Q ∷ earlier) D
  passed Q None D dead h d p = (
    (λ m. (let j = (comes d p).0 ((h d).0 m).0 in (j.0, ((λ t. dead refl (d, (p, j.0, j.1), t)), j.1)))),
    (λ m. (h d).1 ((comes d p).1 (m.0, (m.1).1), (λ x. (m.1).0))),
  )
  passed Q (Some s) D dead h d p = (
    (λ m. (let i = (h d).0 m in let j = (comes d p).0 i.0 in (j.0, (i.1 (λ r. absurd (cc)), j.1)))),
    (λ m. (h d).1 ((comes d p).1 (m.0, (m.1).1), (λ x. (m.1).0))),
  )

  -- what comes after all patterns
  pub comes_to : (d : Document) → is_proper d ≡ true → Comes P S e earlier d → C d
  comes_to d p h = (comes d p).1 (h.1, h.2)

  pub comes_from : (d : Document) → is_proper d ≡ true → C d → Comes P S e earlier d
  comes_from d p h = let i = (comes d p).0 h in (p, i.0, i.1)

module _ (P : ProgramTree) (S : Scope) (e : Expression) (earlier : List PlacedTree) (C : Document → Type 0) (Q : PlacedTree) (comes : ComesTo P S e earlier Q C) where
  abbrev E : Definitions
  E = names_of P

  arrives_from : (d : Document) → Takes E (unplaced Q) d → Arrives E C [] d → Arrives E (May P S e) earlier d
  arrives_from d t h = let i = (comes d h.0 t).0 h.1 in (h.0, i.0, i.1)

  arrives_to : (d : Document) → Takes E (unplaced Q) d → Arrives E (May P S e) earlier d → Arrives E C [] d
  arrives_to d t h = (h.0, (comes d h.0 t).1 (h.1, h.2), tt)

  pub live_from : IsLive E C [] Q → IsLiveIn P S e earlier Q
  live_from h = (h.0, arrives_from h.0 h.2 h.1, h.2)

  pub live_to : IsLiveIn P S e earlier Q → IsLive E C [] Q
  live_to h = (h.0, arrives_to h.0 h.2 h.1, h.2)

  pub bind_from : (x : List ℕ) (d : Document) → MayBind E C [] Q x d → MayBind E (May P S e) earlier Q x d
  bind_from x d h = (h.0, h.1, arrives_from h.0 (h.1, h.3) h.2, h.3, h.4)

  pub bind_to : (x : List ℕ) (d : Document) → MayBind E (May P S e) earlier Q x d → MayBind E C [] Q x d
  bind_to x d h = (h.0, h.1, arrives_to h.0 (h.1, h.3) h.2, h.3, h.4)

  -- variables with states that accept what the pattern may bind them to, in front of a scope
  module _ (a : Automaton) (vs : List Variable) (stands : ScopeStands P S a vs) where
    abbrev pub IsBound : Variable → Type 0
    IsBound v = (d : Document) → is_proper d ≡ true → (accepts a d v.state ≡ true) ↔ MayBind E C [] Q v.name d

    abbrev pub names : List Variable → List (List ℕ)
    names us = map (λ (v : Variable). v.name) us

    abbrev Within : List Variable → List ℕ → Document → Type 0
    Within us x d = AcceptedBy a (state_of (us ++ vs) x) d ↔ WhereTrue (has_word (names us) x) (MayBind E (May P S e) earlier Q x d) (Allows P S x d)

    bound_at : (us : List Variable) → AllByRecursion IsBound us → (x : List ℕ) (d : Document) → is_proper d ≡ true → Within us x d
    bound_at [] b x d p = stands x d p
    bound_at (v ∷ us) b x d p = go (bytes_eq v.name x) refl (bound_at us b.1 x d p)
      where
        go : (t : Bool) → bytes_eq v.name x ≡ t → Within us x d →
            AcceptedBy a (cond t (Some v.state) (state_of (us ++ vs) x)) d ↔ WhereTrue (t || has_word (names us) x) (MayBind E (May P S e) earlier Q x d) (Allows P S x d)
        go true q r =
            (let s : v.name ≡ x = same_word_eq v.name x q in (
              (λ m. bind_from x d (subst (λ y. MayBind E C [] Q y d) s ((b.0 d p).0 m))),
              (λ m. (b.0 d p).1 (subst (λ y. MayBind E C [] Q y d) (sym s) (bind_to x d m))),
            ))
        go false q r = r

    same_words : (x : List ℕ) → has_word (variables_of (unplaced Q)) x ≡ has_word (variables Q) x
    same_words x = go (has_word (variables_of (unplaced Q)) x) refl (has_word (variables Q) x) refl
      where
        go : (s : Bool) → has_word (variables_of (unplaced Q)) x ≡ s → (t : Bool) → has_word (variables Q) x ≡ t → s ≡ t
        go true f true g = refl
        go true f false g = (let k : has_word (variables Q) x ≡ true = has_once (occurrences (unplaced Q)) x f in sym k ∙ g)
        go false f true g = (let k : has_word (variables_of (unplaced Q)) x ≡ true = once_has (occurrences (unplaced Q)) x g in sym f ∙ k)
        go false f false g = refl

    -- the scope of the clause
    pub bound_stands : (us : List Variable) → AllByRecursion IsBound us → names us ≡ variables_of (unplaced Q) → ScopeStands P (clause_entry e earlier Q ∷ S) a (us ++ vs)
    bound_stands us b n x d p =
        subst (λ t. AcceptedBy a (state_of (us ++ vs) x) d ↔ WhereTrue t (MayBind E (May P S e) earlier Q x d) (Allows P S x d))
        (ap (λ ws. has_word ws x) n ∙ same_words x) (bound_at us b x d p)

-- a clause that is not live
pub clause_dead : (p : ProgramTable) (S : Scope) (e : Expression) (earlier : List PlacedTree) (Q : PlacedTree) (f : Expression) (a : Automaton) (ds : List Document) (old new : Found) →
    (IsLiveIn (program_tree p) S e earlier Q → ⊥) → AddsLines ds (λ ls. ls ≡ record { place = place_of Q; kind = dead_clause; document = None } ∷ []) old.lines new.lines → new.met ≡ old.met →
    IsClauseWalked p S e earlier Q f a ds old new None
clause_dead p S e earlier Q f a ds old new n h same =
    let warning : List Line → Type 0 = λ ls. ls ≡ record { place = place_of Q; kind = dead_clause; document = None } ∷ [] in
    record {
      may = λ d i. ((λ m. absurd m), (λ m. absurd (n m.0)));
      found = adds_as (JustLines warning) (SeenInClause (program_tree p) S e earlier Q f) (λ s m. inr (n, m)) (adds_lines warning old new h same);
      dead = λ r. n;
    }

-- and one that is, whose body was walked
pub clause_live : (p : ProgramTable) (S : Scope) (e : Expression) (earlier : List PlacedTree) (Q : PlacedTree) (f : Expression) (a : Automaton) (ds : List Document) (old new : Found) (s : State) →
    IsLiveIn (program_tree p) S e earlier Q → IsWalked p (clause_entry e earlier Q ∷ S) f a ds old new s → IsClauseWalked p S e earlier Q f a ds old new (Some s)
clause_live p S e earlier Q f a ds old new s l w = record {
  may = λ d i. ((λ m. (l, (w.may d i).0 m)), (λ m. (w.may d i).1 m.1));
  found = adds_as (SeenIn (program_tree p) (clause_entry e earlier Q ∷ S) f) (SeenInClause (program_tree p) S e earlier Q f) (λ s m. inl (l, m)) w.found;
  dead = λ r. absurd (cc);
}

-- clauses from some on are still to be walked
pub record AreClausesGoing (p : ProgramTable) (S : Scope) (q : Place) (e : Expression) (all left : Clauses) (C : Document → Type 0) (a : Automaton) (ds : List Document) (old new : Found) (ss : List State) : Type 0 where
  pub earlier : List PlacedTree
  pub comes : ComesBehind (program_tree p) S e earlier C
  pub may : (d : Document) → is_proper d ≡ true → MayClauses (program_tree p) S e [] all d ↔ (AcceptedBySome a ss d ⊎ MayClauses (program_tree p) S e earlier left d)
  pub found : AddsFound p a ds (Goes (SeenInClauses (program_tree p) S q e earlier left) (SeenInClauses (program_tree p) S q e [] all)) old new

pub clauses_begin : (p : ProgramTable) (S : Scope) (q : Place) (e : Expression) (cs : Clauses) (C : Document → Type 0) (a : Automaton) (ds : List Document) (f : Found) → ComesBehind (program_tree p) S e [] C →
    AreClausesGoing p S q e cs cs C a ds f f []
clauses_begin p S q e cs C a ds f h = record {
  earlier = [];
  comes = h;
  may = λ d i. ((λ m. inr m), (λ m. elim m [ inl x ↦ absurd x | inr x ↦ x ]));
  found = goes_begin (SeenInClauses (program_tree p) S q e [] cs) f;
}

some_kept : (a b : Automaton) → Grows a b → (ss : List State) → AllByRecursion (IsState a) ss → (d : Document) → AcceptedBySome b ss d ↔ AcceptedBySome a ss d
some_kept a b g [] i d = ((λ m. m), (λ m. m))
some_kept a b g (s ∷ ss) i d =
    let e : accepts b d s ≡ accepts a d s = g.keeps d s i.0 in
    let r = some_kept a b g ss i.1 d in
    ((λ m. elim m [ inl x ↦ inl (sym e ∙ x) | inr x ↦ inr (r.0 x) ]), (λ m. elim m [ inl x ↦ inl (e ∙ x) | inr x ↦ inr (r.1 x) ]))

some_push : (a : Automaton) (ss : List State) (s : State) (d : Document) → AcceptedBySome a (ss ++ s ∷ []) d ↔ (AcceptedBySome a ss d ⊎ (accepts a d s ≡ true))
some_push a [] s d = ((λ m. elim m [ inl x ↦ inr x | inr x ↦ absurd x ]), (λ m. elim m [ inl x ↦ absurd x | inr x ↦ inl x ]))
some_push a (t ∷ ts) s d =
    let r = some_push a ts s d in (
      (λ m. elim m [ inl x ↦ inl (inl x) | inr x ↦ elim (r.0 x) [ inl y ↦ inl (inr y) | inr y ↦ inr y ] ]),
      (λ m. elim m [ inl x ↦ elim x [ inl y ↦ inl y | inr y ↦ inr (r.1 (inl y)) ] | inr y ↦ inr (r.1 (inr y)) ]),
    )

some_either : (a : Automaton) (ss us : List State) (o : Option State) → us ≡ with_found ss o → (d : Document) → AcceptedBySome a us d ↔ (AcceptedBySome a ss d ⊎ AcceptedBy a o d)
some_either a ss us None e d = subst (λ vs. AcceptedBySome a vs d ↔ (AcceptedBySome a ss d ⊎ ⊥)) (sym e) ((λ m. inl m), (λ m. elim m [ inl x ↦ x | inr x ↦ absurd x ]))
some_either a ss us (Some s) e d = subst (λ vs. AcceptedBySome a vs d ↔ (AcceptedBySome a ss d ⊎ (accepts a d s ≡ true))) (sym e) (some_push a ss s d)

-- the automaton grows, and what comes is told in another way
pub going_on : (p : ProgramTable) (S : Scope) (q : Place) (e : Expression) (all left : Clauses) (C D : Document → Type 0) (a b : Automaton) (ds : List Document) (old new : Found) (ss : List State) →
    Grows a b → AllByRecursion (IsState a) ss → ((d : Document) → D d ↔ C d) → AreClausesGoing p S q e all left C a ds old new ss → AreClausesGoing p S q e all left D b ds old new ss
going_on p S q e all left C D a b ds old new ss grows there same g =
    let P : ProgramTree = program_tree p in
    record {
      earlier = g.earlier;
      comes = comes_like P S e g.earlier C D same g.comes;
      may = λ d i.
          (let x = g.may d i in
          let k = some_kept a b grows ss there d in (
            (λ m. elim (x.0 m) [ inl y ↦ inl (k.1 y) | inr y ↦ inr y ]),
            (λ m. elim m [ inl y ↦ x.1 (inl (k.0 y)) | inr y ↦ x.1 (inr y) ]),
          ));
      found = adds_kept grows (Keeps-same ds) (Goes (SeenInClauses P S q e g.earlier left) (SeenInClauses P S q e [] all)) g.found;
    }

-- what a clause has, and then what those after it have
clause_seen : (P : ProgramTree) (S : Scope) (q : Place) (e : Expression) (earlier : List PlacedTree) (Q : PlacedTree) (f : Expression) (left : Clauses) (s t : Seen) → SeenInClause P S e earlier Q f s → SeenInClauses P S q e (Q ∷ earlier) left t →
    SeenInClauses P S q e earlier (clause Q f left) (followed s t)
clause_seen P S q e earlier Q f left s t (inl x) m = ((s.lines, t.lines, inl (x.0, (x.1).0), m.0, refl), (s.matches, t.matches, inl (x.0, (x.1).1), m.1, refl))
clause_seen P S q e earlier Q f left s t (inr x) m = ((s.lines, t.lines, inr (x.0, (x.1).0), m.0, refl), (s.matches, t.matches, inr (x.0, (x.1).1), m.1, refl))

-- one more clause is walked
pub clauses_more : (p : ProgramTable) (S : Scope) (q : Place) (e : Expression) (all left : Clauses) (Q : PlacedTree) (f : Expression) (C D : Document → Type 0) (a b : Automaton) (ds es : List Document) (old mid new : Found) (ss us : List State) (o : Option State) →
    Grows a b → Keeps ds es → AllByRecursion (IsState a) ss → (g : AreClausesGoing p S q e all (clause Q f left) C a ds old mid ss) → IsClauseWalked p S e g.earlier Q f b es mid new o →
    ComesBehind (program_tree p) S e (Q ∷ g.earlier) D → us ≡ with_found ss o → AreClausesGoing p S q e all left D b es old new us
clauses_more p S q e all left Q f C D a b ds es old mid new ss us o grows keeps there g w comes same =
    let P : ProgramTree = program_tree p in
    record {
      earlier = Q ∷ g.earlier;
      comes = comes;
      may = λ d i.
          (let x = g.may d i in
          let k = some_kept a b grows ss there d in
          let u = some_either b ss us o same d in
          let c = w.may d i in (
            (λ m. elim (x.0 m) [
              | inl y ↦ inl (u.1 (inl (k.1 y)))
              | inr y ↦ elim y [ inl z ↦ inl (u.1 (inr (c.1 z))) | inr z ↦ inr z ]
            ]),
            (λ m. elim m [
              | inl y ↦ elim (u.0 y) [ inl z ↦ x.1 (inl (k.0 z)) | inr z ↦ x.1 (inr (inl (c.0 z))) ]
              | inr y ↦ x.1 (inr (inr y))
            ]),
          ));
      found = goes_more grows keeps (SeenInClauses P S q e g.earlier (clause Q f left)) (SeenInClause P S e g.earlier Q f) (SeenInClauses P S q e (Q ∷ g.earlier) left) (SeenInClauses P S q e [] all) (clause_seen P S q e g.earlier Q f left) g.found w.found;
    }

-- after the last clause stands the line of what no clause takes
pub clauses_end : (p : ProgramTable) (S : Scope) (q : Place) (e : Expression) (all left : Clauses) (C : Document → Type 0) (a b : Automaton) (ds es : List Document) (old mid new : Found) (ss : List State) (made : State) →
    left ≡ no_clause → Grows a b → Keeps ds es → (g : AreClausesGoing p S q e all left C a ds old mid ss) → AddsLines es (LineWhere told_size q not_exhaustive C) mid.lines new.lines → new.met ≡ mid.met →
    ((d : Document) → (accepts b d made ≡ true) ↔ AcceptedBySome a ss d) → AreClausesWalked p S q e all b es old new made
clauses_end p S q e all left C a b ds es old mid new ss made none grows keeps g h met united =
    let P : ProgramTree = program_tree p in
    let line : List Line → Type 0 = LineWhere told_size q not_exhaustive C in
    let rest : Seen → Type 0 = SeenInClauses P S q e g.earlier left in
    let end : (s : Seen) → JustLines line s → rest s
    = λ s m. subst (λ cs. SeenInClauses P S q e g.earlier cs s) (sym none)
    (line_within told_size q not_exhaustive C (Comes P S e g.earlier) (comes_from P S e g.earlier C g.comes) (comes_to P S e g.earlier C g.comes) s.lines m.0, m.1) in
    record {
      may = λ d i.
          (let x = g.may d i in
          let gone : MayClauses P S e g.earlier left d → ⊥ = λ m. (let n : MayClauses P S e g.earlier no_clause d = subst (λ cs. MayClauses P S e g.earlier cs d) none m in n) in
          ((λ m. x.1 (inl ((united d).0 m))), (λ m. elim (x.0 m) [ inl y ↦ (united d).1 y | inr y ↦ absurd (gone y) ])));
      found = goes_end grows keeps rest (SeenInClauses P S q e [] all) g.found (adds_as (JustLines line) rest end (adds_lines line mid new h met));
    }

matched_seen : (P : ProgramTree) (S : Scope) (q : Place) (e : Expression) (cs : Clauses) (s t : Seen) → Begins (record { place = q; scope = S; scrutinee = e; clauses = cs }) (SeenIn P S e) s → SeenInClauses P S q e [] cs t →
    SeenIn P S (Matched q e cs) (followed s t)
matched_seen P S q e cs s t x y = (
  (s.lines, t.lines, (x.1).0, y.0, refl),
  (record { place = q; scope = S; scrutinee = e; clauses = cs } ∷ [], x.0 ++ t.matches, refl, (x.0, t.matches, (x.1).1, y.1, refl), ap (λ ms. ms ++ t.matches) x.2),
)

-- a match, from its scrutinee, before which no match was met, and its clauses
pub walked_matched : (p : ProgramTable) (S : Scope) (q : Place) (e : Expression) (cs : Clauses) (x : MetMatch) (a b : Automaton) (ds es : List Document) (lines : List FoundLine) (none earlier after : List MetMatch) (mid new : Found) (s t : State) →
    Grows a b → Keeps ds es → none ≡ [] → after ≡ earlier ++ x ∷ mid.met → IsMet p a (record { place = q; scope = S; scrutinee = e; clauses = cs }) x →
    IsWalked p S e a ds (record { lines = lines; met = none }) mid s → AreClausesWalked p S q e cs b es (record { lines = mid.lines; met = after }) new t →
    IsWalked p S (Matched q e cs) b es (record { lines = lines; met = earlier }) new t
walked_matched p S q e cs x a b ds es lines none earlier after mid new s t g k z i m w c =
    let P : ProgramTree = program_tree p in
    let own : SeenMatch = record { place = q; scope = S; scrutinee = e; clauses = cs } in
    record {
      may = c.may;
      found = adds_more g k (Begins own (SeenIn P S e)) (SeenInClauses P S q e [] cs) (SeenIn P S (Matched q e cs)) (matched_seen P S q e cs) (adds_before (SeenIn P S e) lines none earlier after mid own x z m i w.found) c.found;
    }

-- what a scrutinee may be comes to the first clause
pub comes_first : (P : ProgramTree) (S : Scope) (e : Expression) (a : Automaton) (s : State) (C : Document → Type 0) → AcceptsJust a s (May P S e) → ((d : Document) → C d ↔ (accepts a d s ≡ true)) → ComesBehind P S e [] C
comes_first P S e a s C h c d p = ((λ m. ((h d p).0 ((c d).0 m), tt)), (λ m. (c d).1 ((h d p).1 m.0)))
