-- The clause that is chosen.
use Rattle.std.proofs.Common.{◌≡◌, ℕ, ◌+◌, ◌<◌, ◌≤◌, arith, List, [], ◌∷◌, ◌++◌, refl, drop, length, get_or, Option, Some, None, Vec, ap, sym, subst, ◌∙◌}
use Rattle.std.proofs.lemmas.List.{drop_more, map-append}
use Rattle.xd_doc.specs.Document.{Document}
use Rattle.xd_doc.specs.declared.store.Seq.{Seq}
use Rattle.xd_doc.proofs.Lists.{all_append, all_at}
use Rattle.xd_syntax.specs.PlacedTable.{placed_at}
use Rattle.xd_syntax.specs.Placed.{unplaced}
use Rattle.xd_syntax.specs.Exprs.{clause_numbers}
use Rattle.xd_syntax.specs.Kept.{ProgramTable}
use Rattle.xd_meaning.specs.Meaning.{Environment, value_by, chosen_by, or_else}
use Rattle.xd_syntax.specs.declared.exprs.Clause.{Clause}
use Rattle.xd_match.specs.Matches.{environment_in as bound_in, ScopeStands as BindingsStand}
use Rattle.xd_eval.specs.Values.{World, value_at, Stands, KeepsValues}
use Rattle.xd_eval.specs.Waiting.{steps, clause_steps}
use Rattle.xd_eval.specs.Machine.{IsOfClause, IsRunnable, environment_in, expression_in, clauses_in, matcher, caller, ScopeStands, ClausesStand, AreBindings, IsBody, as_values}
use Rattle.xd_eval.specs.declared.frame.Scope.{Scope}
use Rattle.xd_eval.specs.declared.joins.Value.{Value}
use Rattle.xd_eval.proofs.ValueLemmas.{value_of-at, value_of-stands}
use Rattle.xd_eval.proofs.Waits.{environment_kept, scope_kept}

pub bound_are : {S : Type 0} (ds : List Document) (o : Option Environment) (found : Option (Vec (List ℕ × Seq) S)) (bs : Vec (List ℕ × Seq) S) → AreBindings ds o found → found ≡ Some bs →
    (o ≡ Some (bound_in ds bs.items)) × BindingsStand ds bs.items
bound_are ds (Some vs) (Some cs) bs a e =
    let h : cs ≡ bs = same cs bs e in
    (ap Some (sym a.0) ∙ ap (λ (v : Vec (List ℕ × Seq) _). Some (bound_in ds v.items)) h, subst (λ (v : Vec (List ℕ × Seq) _). BindingsStand ds v.items) h a.1)
  where
    same : {A : Type 0} (x y : A) → Some x ≡ Some y → x ≡ y
    same x y h = cc
bound_are ds (Some vs) None bs a e = absurd a
bound_are ds None (Some cs) bs a e = absurd a
bound_are ds None None bs a e = absurd (cc)

-- what a match binds has the same as values
pub as_values-environment : (here : World) (bs : List (List ℕ × Seq)) → environment_in here (as_values bs) ≡ bound_in here.documents bs
as_values-environment here [] = refl
as_values-environment here (b ∷ bs) = let e = value_of-at here b.1 in let r = as_values-environment here bs in cc

pub as_values-stand : (here : World) (bs : List (List ℕ × Seq)) → BindingsStand here.documents bs → ScopeStands here (as_values bs)
as_values-stand here [] s = tt
as_values-stand here (b ∷ bs) s = (value_of-stands here b.1 s.0, as_values-stand here bs s.1)

module _ (p : ProgramTable) (env : Environment) (d : Document) (cs : List Clause) (i : ℕ) (c : Clause) (l : i < length cs) (e : c ≡ get_or cs i c) where
  front : clauses_in p (clause_numbers (drop i cs)) ≡ clauses_in p (clause_numbers (c ∷ drop (i + 1) cs))
  front = ap (λ xs. clauses_in p (clause_numbers xs)) (drop_more cs i c l ∙ ap (λ x. x ∷ drop (i + 1) cs) (sym e))

  taken : (vs : Environment) → matcher p (unplaced (placed_at p.patterns c.pattern.at)) d ≡ Some vs → (n : ℕ) →
      chosen_by (matcher p) (caller p) n env d (clauses_in p (clause_numbers (drop i cs))) ≡ value_by (matcher p) (caller p) n (vs ++ env) (expression_in p c.body.at)
  taken vs h n =
      ap (chosen_by (matcher p) (caller p) n env d) front
      ∙ ap (λ o. or_else o (λ vs. value_by (matcher p) (caller p) n (vs ++ env) (expression_in p c.body.at)) (chosen_by (matcher p) (caller p) n env d (clauses_in p (clause_numbers (drop (i + 1) cs))))) h

  taken_steps : steps (expression_in p c.body.at) ≤ clause_steps (clauses_in p (clause_numbers (drop i cs)))
  taken_steps = let a = ap clause_steps front in omega arith

pub is_body : (p : ProgramTable) (old new : World) → KeepsValues old new → (bs : List (List ℕ × Value)) → ScopeStands old bs → (d : Document) (cs : List Clause) → ClausesStand p cs →
    (i : ℕ) (c : Clause) → i < length cs → c ≡ get_or cs i c → (items : List (List ℕ × Value)) → matcher p (unplaced (placed_at p.patterns c.pattern.at)) d ≡ Some (environment_in new items) → ScopeStands new items →
    (inner : Scope) → inner.bindings.value.items ≡ items ++ bs →
    ((env : Environment) (n : ℕ) → chosen_by (matcher p) (caller p) n env d (clauses_in p (clause_numbers cs)) ≡ chosen_by (matcher p) (caller p) n env d (clauses_in p (clause_numbers (drop i cs)))) →
    clause_steps (clauses_in p (clause_numbers (drop i cs))) ≤ clause_steps (clauses_in p (clause_numbers cs)) →
    IsBody p old new (clause_numbers cs) bs d c.body inner
is_body p old new k bs s d cs st i c l e items m si inner h same less =
    record {
      same = λ n.
          ap (λ (xs : List (List ℕ × Value)). value_by (matcher p) (caller p) n (environment_in new xs) (expression_in p c.body.at)) h
          ∙ ap (λ env. value_by (matcher p) (caller p) n env (expression_in p c.body.at)) (map-append (λ (b : List ℕ × Value). (b.0, value_at new b.1)) items bs)
          ∙ ap (λ env. value_by (matcher p) (caller p) n (environment_in new items ++ env) (expression_in p c.body.at)) (environment_kept old new k bs s)
          ∙ sym (same (environment_in old bs) n ∙ taken p (environment_in old bs) d cs i c l e (environment_in new items) m n);
      there = subst (λ (x : Clause). IsRunnable p x.body.at) (sym e) (all_at (λ (x : Clause). IsOfClause p x.pattern.at × IsRunnable p x.body.at) cs st i c l).1;
      stands = subst (ScopeStands new) (sym h) (all_append (λ (b : List ℕ × Value). Stands new b.1) items bs si (scope_kept old new k bs s));
      less = (let a = taken_steps p (environment_in old bs) d cs i c l e in omega arith);
    }
