-- The loop over the clauses of a match.
use Rattle.std.proofs.Common.{◌≡◌, ◌↔◌, ℕ, ◌+◌, ◌<◌, true, false, Bool, List, [], ◌∷◌, ◌++◌, length, get_or, drop, refl, sym, subst, ◌∙◌, append-nil, append_assoc}
use Rattle.std.specs.List.{AllByRecursion}
use Rattle.xd_doc.specs.Document.{Document}
use Rattle.xd_auto.specs.declared.auto.State.{State}
use Rattle.xd_auto.specs.Automaton.{Automaton}
use Rattle.xd_syntax.specs.Expression.{Clauses, Expression}
use Rattle.xd_syntax.specs.Exprs.{clause_numbers}
use Rattle.xd_syntax.specs.Kept.{ProgramTable, program_tree}
use Rattle.xd_syntax.specs.May.{Scope}
use Rattle.xd_syntax.specs.Placed.{PlacedTree, unplaced}
use Rattle.xd_syntax.specs.PlacedTable.{placed_at}
use Rattle.xd_syntax.specs.Program.{ProgramTree, names_of}
use Rattle.xd_syntax.specs.Ways.{Takes}
use Rattle.xd_syntax.specs.declared.exprs.Clause.{Clause}
use Rattle.xd_clauses.specs.Behind.{Remains, StandsIn}
use Rattle.xd_clauses.specs.Clauses.{Accepted}
use Rattle.xd_clauses.specs.declared.behind.Remaining.{Remaining}
use Rattle.xd_clauses.specs.declared.compiled.CompiledPatterns.{CompiledPatterns}
use Rattle.xd_check_steps.specs.Walkable.{ClauseCanBeWalked}
use Rattle.xd_check.specs.Walked.{ComesBehind, ComesTo}
use Rattle.xd_check_steps.specs.States.{Grows}
use Rattle.xd_check.proofs.ClauseLemmas.{comes_among, comes_like}
use Rattle.xd_check.proofs.ClauseLoop.{AreAhead, ahead_begin, ahead_more, clause_front, clauses_in, still_behind}
use Rattle.xd_check_steps.proofs.GrowsLemmas.{grows_none, grows_then}
use Rattle.xd_variables.specs.Read.{AddsVariables, IsClauseRead, TellsLive}
use Rattle.xd_variables.specs.Seen.{Reading, SeenVariable, variables_of_clause, variables_of_clauses}
use Rattle.xd_variables.specs.declared.variables.BoundVariable.{BoundVariable}
use Rattle.xd_variables.proofs.ReadingLemmas.{adds_both, adds_none}

-- what comes after a clause, where it is told whether that is live
passed_live : (P : ProgramTree) (S : Scope) (e : Expression) (earlier : List PlacedTree) (C D : Document → Type 0) → ComesBehind P S e earlier C → (Q : PlacedTree) (live : Bool) → TellsLive P S e earlier Q live →
    ((d : Document) → D d ↔ (C d × (live ≡ true → Takes (names_of P) (unplaced Q) d → ⊥))) → ComesBehind P S e (Q ∷ earlier) D
passed_live P S e earlier C D comes Q false dead h d p = (
  (λ m. (let j = (comes d p).0 ((h d).0 m).0 in (j.0, ((λ t. dead (d, (p, j.0, j.1), t)), j.1)))),
  (λ m. (h d).1 ((comes d p).1 (m.0, (m.1).1), (λ x. (m.1).0))),
)
passed_live P S e earlier C D comes Q true live h d p = (
  (λ m. (let i = (h d).0 m in let j = (comes d p).0 i.0 in (j.0, (i.1 refl, j.1)))),
  (λ m. (h d).1 ((comes d p).1 (m.0, (m.1).1), (λ x. (m.1).0))),
)

-- the clauses that are left, after these patterns
pub record ClausesLeft (B : Reading) (P : ProgramTree) (S : Scope) (e : Expression) (all left : Clauses) (C : Document → Type 0) (a : Automaton) (old new : List BoundVariable) : Type 0 where
  pub earlier : List PlacedTree
  pub comes : ComesBehind P S e earlier C
  pub read : List SeenVariable
  pub whole : variables_of_clauses S e [] all ≡ read ++ variables_of_clauses S e earlier left
  pub adds : AddsVariables B P a read old new

-- the clauses from the n-th on are still to be read
pub record ClausesRead (B : Reading) (p : ProgramTable) (patterns : CompiledPatterns) (a b : Automaton) (old new : List BoundVariable) (cs : List Clause) (n : ℕ) (first : State) (r : Remaining) : Type 0 where
  pub grows : Grows a b
  pub ahead : AreAhead p patterns b cs n r
  pub read : (S : Scope) (e : Expression) → ComesBehind (program_tree p) S e [] (Accepted a first) → ClausesLeft B (program_tree p) S e (clauses_in p cs) (clauses_in p (drop n cs)) (Remains b patterns r) b old new

pub clauses_begin : (B : Reading) (p : ProgramTable) (patterns : CompiledPatterns) (a : Automaton) (xs : List BoundVariable) (cs : List Clause) (first : State) (r : Remaining) → AllByRecursion (ClauseCanBeWalked p) (clause_numbers cs) → StandsIn a patterns r →
    ((d : Document) → Remains a patterns r d ↔ Accepted a first d) → ClausesRead B p patterns a a xs xs cs 0 first r
clauses_begin B p patterns a xs cs first r h i same = record {
  grows = grows_none a;
  ahead = ahead_begin p patterns a cs r h i;
  read = λ S e c. record {
    earlier = [];
    comes = comes_like (program_tree p) S e [] (Accepted a first) (Remains a patterns r) same c;
    read = [];
    whole = refl;
    adds = adds_none B (program_tree p) a xs;
  };
}

-- One more clause is read. What comes to it is the state v, and then r remains as s, and without
-- what it takes as t.
pub clauses_more : (B : Reading) (p : ProgramTable) (patterns : CompiledPatterns) (a b m c : Automaton) (old mid new : List BoundVariable) (cs : List Clause) (n : ℕ) (first v : State) (r s t : Remaining) (k : Clause) (live : Bool) →
    ClausesRead B p patterns a b old mid cs n first r → n < length cs → k ≡ get_or cs n k →
    Grows b m → StandsIn m patterns s → ((d : Document) → Remains m patterns s d ↔ Remains b patterns r d) → ((d : Document) → Takes (names_of (program_tree p)) (unplaced (placed_at p.patterns (k.pattern).at)) d → Accepted m v d ↔ Remains b patterns r d) →
    ((S : Scope) (e : Expression) (earlier : List PlacedTree) → ComesTo (program_tree p) S e earlier (placed_at p.patterns (k.pattern).at) (Accepted m v) →
    IsClauseRead B (program_tree p) S e earlier (placed_at p.patterns (k.pattern).at) c mid new live) → Grows m c →
    StandsIn c patterns t → ((d : Document) → Remains c patterns t d ↔ (Remains c patterns s d × (live ≡ true → Takes (names_of (program_tree p)) (unplaced (placed_at p.patterns (k.pattern).at)) d → ⊥))) →
    ClausesRead B p patterns a c old new cs (n + 1) first t
clauses_more B p patterns a b m c old mid new cs n first v r s t k live h l e gb there same among f gm after pass =
    let P : ProgramTree = program_tree p in
    let fr = clause_front cs n k l e in
    let Q : PlacedTree = placed_at p.patterns (k.pattern).at in
    let g : Grows b c = grows_then b m c gb gm in
    record {
      grows = grows_then a b c h.grows g;
      ahead = ahead_more p patterns b c cs n r t k h.ahead l e after;
      read = λ S z comes.
          (let y : ClausesLeft B P S z (clauses_in p cs) (clauses_in p (k ∷ drop (n + 1) cs)) (Remains b patterns r) b old mid
          = subst (λ (ys : List Clause). ClausesLeft B P S z (clauses_in p cs) (clauses_in p ys) (Remains b patterns r) b old mid) fr (h.read S z comes) in
          let w = f S z y.earlier (comes_among P S z y.earlier (Remains b patterns r) (Accepted m v) Q y.comes among) in
          let here : List SeenVariable = variables_of_clause S z y.earlier Q in
          let rest : List SeenVariable = variables_of_clauses S z (Q ∷ y.earlier) (clauses_in p (drop (n + 1) cs)) in
          record {
            earlier = Q ∷ y.earlier;
            comes = passed_live P S z y.earlier (Remains c patterns s) (Remains c patterns t) (still_behind P S z y.earlier b m c patterns r s there same gm y.comes) Q live w.tells pass;
            read = y.read ++ here;
            whole = y.whole ∙ sym (append_assoc y.read here rest);
            adds = adds_both B P b c g y.read here old mid new y.adds w.adds;
          });
    }

pub clauses_end : (B : Reading) (p : ProgramTable) (patterns : CompiledPatterns) (a b : Automaton) (old new : List BoundVariable) (cs : List Clause) (n : ℕ) (first : State) (r : Remaining) → drop n cs ≡ [] → ClausesRead B p patterns a b old new cs n first r →
    (S : Scope) (e : Expression) → ComesBehind (program_tree p) S e [] (Accepted a first) → AddsVariables B (program_tree p) b (variables_of_clauses S e [] (clauses_in p cs)) old new
clauses_end B p patterns a b old new cs n first r d h S e comes =
    let P : ProgramTree = program_tree p in
    let y : ClausesLeft B P S e (clauses_in p cs) (clauses_in p []) (Remains b patterns r) b old new
    = subst (λ (ys : List Clause). ClausesLeft B P S e (clauses_in p cs) (clauses_in p ys) (Remains b patterns r) b old new) d (h.read S e comes) in
    subst (λ vs. AddsVariables B P b vs old new) (sym (y.whole ∙ append-nil y.read)) y.adds
