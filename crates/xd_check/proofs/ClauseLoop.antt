-- The loop over the clauses of a match.
use Rattle.std.proofs.Common.{◌≡◌, ◌≢◌, ◌↔◌, ℕ, ◌+◌, ◌<◌, ◌≤◌, arith, true, List, [], ◌∷◌, length, get_or, drop, Option, None, ap, sym, subst, ◌∙◌}
use Rattle.std.specs.List.{AllByRecursion}
use Rattle.std.specs.Option.{IfSome}
use Rattle.std.proofs.lemmas.List.{drop_more}
use Rattle.xd_base.specs.declared.Place.{Place}
use Rattle.xd_doc.specs.Document.{Document}
use Rattle.xd_doc.specs.StoreNodes.{Keeps}
use Rattle.xd_auto.specs.declared.auto.State.{State}
use Rattle.xd_auto.specs.Automaton.{Automaton, IsState, accepts}
use Rattle.xd_syntax.specs.Placed.{PlacedTree, unplaced}
use Rattle.xd_syntax.specs.PlacedTable.{placed_at}
use Rattle.xd_syntax.specs.Ways.{Takes}
use Rattle.xd_syntax.specs.Expression.{Expression, Clauses}
use Rattle.xd_syntax.specs.ExpressionTable.{clauses_of}
use Rattle.xd_syntax.specs.Exprs.{clause_numbers}
use Rattle.xd_syntax.specs.Program.{ProgramTree, names_of}
use Rattle.xd_syntax.specs.Kept.{ProgramTable, program_tree}
use Rattle.xd_syntax.specs.May.{Scope}
use Rattle.xd_syntax.specs.CheckFaults.{LineWhere, not_exhaustive}
use Rattle.xd_syntax.specs.declared.exprs.Clause.{Clause}
use Rattle.xd_clauses.specs.Behind.{Remains, StandsIn}
use Rattle.xd_clauses.specs.Clauses.{Accepted}
use Rattle.xd_clauses.specs.declared.behind.Remaining.{Remaining}
use Rattle.xd_clauses.specs.declared.compiled.CompiledPatterns.{CompiledPatterns}
use Rattle.xd_check_steps.specs.declared.variables.Variable.{Variable}
use Rattle.xd_check_steps.specs.Found.{Found}
use Rattle.xd_check_steps.specs.FoundLines.{AddsLines, told_size}
use Rattle.xd_check_steps.specs.InScope.{AreStates, ScopeStands}
use Rattle.xd_check_steps.specs.Walkable.{ClauseCanBeWalked, expr_at}
use Rattle.xd_check_steps.specs.States.{AcceptedBySome, Grows, with_found}
use Rattle.xd_check.specs.Walked.{AreClausesWalked, ComesBehind, ComesTo, IsClauseWalked}
use Rattle.xd_check.proofs.ClauseLemmas.{AreClausesGoing, clauses_begin, clauses_end, clauses_more, comes_among, comes_like, going_on, passed}
use Rattle.xd_check_steps.proofs.GrowsLemmas.{grows_then, scope_kept}
use Rattle.xd_check.proofs.IsReadyLemmas.{found_there}
use Rattle.xd_check.proofs.Loops.{Stays, stays_begin, stays_more}
use Rattle.xd_check_steps.proofs.Ceilings.{bodies, ceiling}

-- the clauses of these
abbrev pub clauses_in : ProgramTable → List Clause → Clauses
clauses_in p cs = clauses_of (placed_at p.patterns) (expr_at p) (clause_numbers cs)

-- the same while the automaton grows
pub stands_on : (a b : Automaton) (patterns : CompiledPatterns) (r : Remaining) → Grows a b → StandsIn a patterns r → StandsIn b patterns r
stands_on a b patterns r g h = record { state = (g.extends).states r.state h.state; waiting = h.waiting }

remains_on : (a b : Automaton) (patterns : CompiledPatterns) (r : Remaining) → Grows a b → StandsIn a patterns r → (d : Document) → Remains b patterns r d ↔ Remains a patterns r d
remains_on a b patterns r g h d =
    let same : accepts b d r.state ≡ accepts a d r.state = g.keeps d r.state h.state in
    (λ m. (sym same ∙ m.0, m.1), λ m. (same ∙ m.0, m.1))

-- what remained as r remains as s
pub still_behind : (P : ProgramTree) (S : Scope) (e : Expression) (earlier : List PlacedTree) (b m c : Automaton) (patterns : CompiledPatterns) (r s : Remaining) → StandsIn m patterns s → ((d : Document) → Remains m patterns s d ↔ Remains b patterns r d) → Grows m c →
    ComesBehind P S e earlier (Remains b patterns r) → ComesBehind P S e earlier (Remains c patterns s)
still_behind P S e earlier b m c patterns r s there same g comes =
    comes_like P S e earlier (Remains b patterns r) (Remains c patterns s) (λ d. let y = remains_on m c patterns s g there d in let z = same d in (λ w. z.0 (y.0 w), λ w. y.1 (z.1 w))) comes

-- The clauses from the n-th on are still to come, and r is what the others, which have some of the
-- patterns, leave.
pub record AreAhead (p : ProgramTable) (patterns : CompiledPatterns) (a : Automaton) (cs : List Clause) (n : ℕ) (r : Remaining) : Type 0 where
  pub rest : AllByRecursion (ClauseCanBeWalked p) (clause_numbers (drop n cs))
  pub below : ceiling (bodies (clause_numbers (drop n cs))) ≤ ceiling (bodies (clause_numbers cs))
  pub stands : StandsIn a patterns r

pub ahead_begin : (p : ProgramTable) (patterns : CompiledPatterns) (a : Automaton) (cs : List Clause) (r : Remaining) → AllByRecursion (ClauseCanBeWalked p) (clause_numbers cs) → StandsIn a patterns r → AreAhead p patterns a cs 0 r
ahead_begin p patterns a cs r h i = record { rest = h; below = omega arith; stands = i }

pub clause_front : (cs : List Clause) (n : ℕ) (k : Clause) → n < length cs → k ≡ get_or cs n k → drop n cs ≡ k ∷ drop (n + 1) cs
clause_front cs n k l e = drop_more cs n k l ∙ ap (λ x. x ∷ drop (n + 1) cs) (sym e)

pub clause_here : (p : ProgramTable) (patterns : CompiledPatterns) (a : Automaton) (cs : List Clause) (n : ℕ) (r : Remaining) (k : Clause) → AreAhead p patterns a cs n r → n < length cs → k ≡ get_or cs n k →
    ClauseCanBeWalked p ((k.pattern).at, (k.body).at) × ((k.body).at + 1 ≤ ceiling (bodies (clause_numbers cs)))
clause_here p patterns a cs n r k h l e =
    let f = clause_front cs n k l e in
    let there : AllByRecursion (ClauseCanBeWalked p) (clause_numbers (k ∷ drop (n + 1) cs)) = subst (λ (xs : List Clause). AllByRecursion (ClauseCanBeWalked p) (clause_numbers xs)) f h.rest in
    let c : ceiling (bodies (clause_numbers (k ∷ drop (n + 1) cs))) ≤ ceiling (bodies (clause_numbers cs)) = subst (λ (xs : List Clause). ceiling (bodies (clause_numbers xs)) ≤ ceiling (bodies (clause_numbers cs))) f h.below in
    (there.0, omega arith)

pub ahead_more : (p : ProgramTable) (patterns : CompiledPatterns) (a b : Automaton) (cs : List Clause) (n : ℕ) (r t : Remaining) (k : Clause) → AreAhead p patterns a cs n r → n < length cs → k ≡ get_or cs n k → StandsIn b patterns t → AreAhead p patterns b cs (n + 1) t
ahead_more p patterns a b cs n r t k h l e i =
    let f = clause_front cs n k l e in
    let left : AllByRecursion (ClauseCanBeWalked p) (clause_numbers (k ∷ drop (n + 1) cs)) = subst (λ (ys : List Clause). AllByRecursion (ClauseCanBeWalked p) (clause_numbers ys)) f h.rest in
    let top : ceiling (bodies (clause_numbers (k ∷ drop (n + 1) cs))) ≤ ceiling (bodies (clause_numbers cs)) = subst (λ (ys : List Clause). ceiling (bodies (clause_numbers ys)) ≤ ceiling (bodies (clause_numbers cs))) f h.below in
    record { rest = left.1; below = omega arith; stands = i }

-- The clauses from the n-th on are still to be walked: `first` is the scrutinee's state, and r what
-- the others leave of it.
pub record ClausesLoop (p : ProgramTable) (patterns : CompiledPatterns) (place : Place) (a b : Automaton) (vs ws : List Variable) (ds es : List Document) (old new : Found) (cs : List Clause) (n : ℕ) (ss : List State) (first : State) (r : Remaining) : Type 0 where
  pub stays : Stays a b vs ws ds es
  pub there : AllByRecursion (IsState b) ss
  pub ahead : AreAhead p patterns b cs n r
  pub walked : (S : Scope) (e : Expression) → ScopeStands (program_tree p) S a vs → ComesBehind (program_tree p) S e [] (Accepted a first) →
      AreClausesGoing p S place e (clauses_in p cs) (clauses_in p (drop n cs)) (Remains b patterns r) b es old new ss

pub clauses_loop_begin : (p : ProgramTable) (patterns : CompiledPatterns) (place : Place) (a : Automaton) (vs : List Variable) (ds : List Document) (f : Found) (cs : List Clause) (first : State) (r : Remaining) → AllByRecursion (ClauseCanBeWalked p) (clause_numbers cs) → StandsIn a patterns r →
    ((d : Document) → Remains a patterns r d ↔ Accepted a first d) → ClausesLoop p patterns place a a vs vs ds ds f f cs 0 [] first r
clauses_loop_begin p patterns place a vs ds f cs first r h i same = record {
  stays = stays_begin a vs ds;
  there = tt;
  ahead = ahead_begin p patterns a cs r h i;
  walked = λ S e s c. clauses_begin p S place e (clauses_in p cs) (Remains a patterns r) a ds f (comes_like (program_tree p) S e [] (Accepted a first) (Remains a patterns r) same c);
}

-- One more clause is walked. What comes to it is the state v, and then r remains as s, and without what it takes as t.
pub clauses_loop_more : (p : ProgramTable) (patterns : CompiledPatterns) (place : Place) (a b m c : Automaton) (vs ws xs : List Variable) (ds es fs : List Document) (old mid new : Found) (cs : List Clause) (n : ℕ) (ss us : List State) (first v : State) (r s t : Remaining) (k : Clause) (o : Option State) →
    AreStates a vs → ClausesLoop p patterns place a b vs ws ds es old mid cs n ss first r → n < length cs → k ≡ get_or cs n k →
    Grows b m → StandsIn m patterns s → ((d : Document) → Remains m patterns s d ↔ Remains b patterns r d) → ((d : Document) → Takes (names_of (program_tree p)) (unplaced (placed_at p.patterns (k.pattern).at)) d → Accepted m v d ↔ Remains b patterns r d) →
    ((S : Scope) (e : Expression) (earlier : List PlacedTree) → ScopeStands (program_tree p) S m ws → ComesTo (program_tree p) S e earlier (placed_at p.patterns (k.pattern).at) (Accepted m v) →
    IsClauseWalked p S e earlier (placed_at p.patterns (k.pattern).at) (expr_at p (k.body).at) c fs mid new o) → xs ≡ ws → Grows m c → Keeps es fs → us ≡ with_found ss o → IfSome o (IsState c) →
    StandsIn c patterns t → ((d : Document) → Remains c patterns t d ↔ (Remains c patterns s d × (o ≢ None → Takes (names_of (program_tree p)) (unplaced (placed_at p.patterns (k.pattern).at)) d → ⊥))) →
    ClausesLoop p patterns place a c vs xs ds fs old new cs (n + 1) us first t
clauses_loop_more p patterns place a b m c vs ws xs ds es fs old mid new cs n ss us first v r s t k o av h l e gb there same among f x gm q u i after pass =
    let P : ProgramTree = program_tree p in
    let fr = clause_front cs n k l e in
    let Q : PlacedTree = placed_at p.patterns (k.pattern).at in
    let st = h.stays in
    let g : Grows b c = grows_then b m c gb gm in
    record {
      stays = stays_more a b c vs ws xs ds es fs h.stays x g q;
      there = found_there b c g ss us o h.there i u;
      ahead = ahead_more p patterns b c cs n r t k h.ahead l e after;
      walked = λ S z stands comes.
          (let y : AreClausesGoing p S place z (clauses_in p cs) (clauses_in p (k ∷ drop (n + 1) cs)) (Remains b patterns r) b es old mid ss
          = subst (λ (ys : List Clause). AreClausesGoing p S place z (clauses_in p cs) (clauses_in p ys) (Remains b patterns r) b es old mid ss) fr (h.walked S z stands comes) in
          let w = f S z y.earlier (subst (ScopeStands P S m) (sym st.variables) (scope_kept P S a m (grows_then a b m st.grows gb) vs av stands)) (comes_among P S z y.earlier (Remains b patterns r) (Accepted m v) Q y.comes among) in
          clauses_more p S place z (clauses_in p cs) (clauses_in p (drop (n + 1) cs)) Q (expr_at p (k.body).at) (Remains b patterns r) (Remains c patterns t) b c es fs old mid new ss us o g q h.there y w
          (passed P S z y.earlier (Remains c patterns s) (still_behind P S z y.earlier b m c patterns r s there same gm y.comes) Q o (Remains c patterns t) w.dead pass) u);
    }

pub clauses_loop_end : (p : ProgramTable) (patterns : CompiledPatterns) (place : Place) (a b m c : Automaton) (vs ws : List Variable) (ds es fs : List Document) (old mid new : Found) (cs : List Clause) (n : ℕ) (ss : List State) (first left made : State) (r : Remaining) → drop n cs ≡ [] →
    ClausesLoop p patterns place a b vs ws ds es old mid cs n ss first r → Grows b m → Grows m c → ((d : Document) → Accepted m left d ↔ Remains b patterns r d) → Keeps es fs → AddsLines fs (LineWhere told_size place not_exhaustive (Accepted m left)) mid.lines new.lines → new.met ≡ mid.met →
    ((d : Document) → (accepts c d made ≡ true) ↔ AcceptedBySome m ss d) →
    (S : Scope) (e : Expression) → ScopeStands (program_tree p) S a vs → ComesBehind (program_tree p) S e [] (Accepted a first) → AreClausesWalked p S place e (clauses_in p cs) c fs old new made
clauses_loop_end p patterns place a b m c vs ws ds es fs old mid new cs n ss first left made r none h g grown exact k adds met united S e stands comes =
    let y = going_on p S place e (clauses_in p cs) (clauses_in p (drop n cs)) (Remains b patterns r) (Accepted m left) b m es old mid ss g h.there exact (h.walked S e stands comes) in
    clauses_end p S place e (clauses_in p cs) (clauses_in p (drop n cs)) (Accepted m left) m c es fs old mid new ss made (ap (clauses_in p) none) grown k y adds met united
