-- What an accepted program comes to.
use Rattle.std.proofs.Common.{◌≡◌, ℕ, suc, ◌-◌, ◌≤◌, arith, Bool, true, false, cond, List, [], ◌∷◌, map, Option, Some, None, refl, ap, sym, subst, ◌∙◌}
use Rattle.std.specs.Prelude.{option_map}
use Rattle.std.specs.Str.{bytes_eq}
use Rattle.xd_doc.specs.Document.{Document, is_proper}
use Rattle.xd_doc.specs.Stored.{document_at}
use Rattle.xd_doc.specs.StoredSeq.{BelongsTo}
use Rattle.xd_doc.specs.declared.store.Seq.{Seq}
use Rattle.xd_syntax.specs.Words.{main_word}
use Rattle.xd_syntax.specs.Fits.{Fits}
use Rattle.xd_syntax.specs.Types.{tree}
use Rattle.xd_syntax.specs.PlacedTable.{placed_at}
use Rattle.xd_syntax.specs.Placed.{unplaced}
use Rattle.xd_meaning.specs.FirstMatch.{first}
use Rattle.xd_meaning.specs.Bindings.{first_bindings, bindings_in, variables_of}
use Rattle.xd_syntax.specs.FunctionRow.{FunctionRow}
use Rattle.xd_syntax.specs.Program.{FunctionDefinition, ProgramTree, names_of, function_of}
use Rattle.xd_syntax.specs.Kept.{ProgramTable, ProgramStands, program_tree, function_definition, parameter}
use Rattle.xd_syntax.specs.RecursionFaults.{IsSound}
use Rattle.xd_syntax.specs.SoundTables.{main_parameter, only_parameter}
use Rattle.xd_syntax.specs.Proper.{IsProperProgram}
use Rattle.xd_meaning.specs.Meaning.{Done, Stuck, Environment, value_by, body_by, bound as environment_of, meaning}
use Rattle.xd_syntax.specs.declared.program.Param.{Param}
use Rattle.xd_syntax.specs.declared.types.TypeId.{TypeId}
use Rattle.xd_syntax.proofs.PlacedTrees.{unplaced_at}
use Rattle.xd_laws.specs.Laws.{BindingsAgree}
use Rattle.xd_laws.specs.Safety.{IsSafe, IsValueOf, Meets}
use Rattle.xd_eval.specs.Functions.{row_of}
use Rattle.xd_eval.specs.declared.frame.Control.{Control}
use Rattle.xd_eval.specs.declared.frame.Ending.{Ending}
use Rattle.xd_eval.specs.Machine.{IsRunnable, IsEnding, caller, matcher, outcome, environment_in, expression_in, ScopeStands, bound_values, value_of, world}
use Rattle.xd_eval.specs.declared.frame.Scope.{Scope}
use Rattle.xd_eval.specs.declared.joins.Value.{Value}
use Rattle.xd_eval.proofs.ValueLemmas.{value_of-at, value_of-stands}
use Rattle.xd_eval.specs.declared.frame.Control.TheVariants.{Evaluate}
use Rattle.xd_syntax.specs.declared.exprs.ExprId.{ExprId}
use Rattle.xd_eval.proofs.Outcomes.{then_done}
use Rattle.xd_eval.proofs.Called.{row_called}
use Rattle.xd_eval.proofs.Resumed.{body_below, bound_stands, bound_environment}
use Rattle.xd_eval.specs.Evaluation.{FitsParameter, IsInput}
use Rattle.xd_eval.specs.Machine.{IsStart}
use Rattle.xd_eval.proofs.Alike.{MatchAlike, MatchersAgree, call_alike}
use Rattle.xd_eval.proofs.Calls.{LeavesAtMost, call_leaves}
use Rattle.xd_eval.proofs.FunctionRowLemmas.{named}

-- matches are alike whether their bindings stand in the way's order or in that of the variables
pub matchers_agree : (P : ProgramTree) → IsProperProgram P → BindingsAgree → MatchersAgree (first (names_of P)) (first_bindings (names_of P))
matchers_agree P proper agree T d = go (first (names_of P) T d) refl
  where
    go : (o : Option Environment) → first (names_of P) T d ≡ o → MatchAlike o (option_map (bindings_in (variables_of T)) o)
    go (Some vs) e = λ x. sym (agree P proper T d vs (bindings_in (variables_of T) vs) e (ap (option_map (bindings_in (variables_of T))) e) x)
    go None e = tt

pub meaning_called : (p : ProgramTable) → IsProperProgram (program_tree p) → BindingsAgree → (n : ℕ) (d : Document) → meaning (program_tree p) n d ≡ caller p n main_word (d ∷ [])
meaning_called p proper agree n d =
    call_alike (first (names_of (program_tree p))) (matcher p) (matchers_agree (program_tree p) proper agree) (program_tree p) n n main_word (d ∷ [])

pub leaves : (p : ProgramTable) (n : ℕ) (ds : List Document) (w : List ℕ) (v : Document) (m : ℕ) → caller p n w ds ≡ Done v m → m ≤ n
leaves p n ds w v m e = let h : LeavesAtMost n (Done v m) = subst (LeavesAtMost n) e (call_leaves (matcher p) (program_tree p) n n w ds) in h

-- `main` has one parameter, of this type
pub record HasMain (p : ProgramTable) (t : TypeId) : Type 0 where
  pub row : FunctionRow
  pub param : Param
  pub found : row_of p.functions main_word ≡ Some row
  pub only : row.params ≡ param ∷ []
  pub body : param.body ≡ t

main_row : (fs : List FunctionRow) (t : TypeId) → main_parameter fs ≡ Some t → (f : FunctionRow) × (row_of fs main_word ≡ Some f) × (only_parameter f.params ≡ Some t)
main_row [] t e = absurd (cc)
main_row (f ∷ fs) t e = go (bytes_eq f.name main_word) e (main_row fs t)
  where
    go : (b : Bool) → cond b (only_parameter f.params) (main_parameter fs) ≡ Some t → (main_parameter fs ≡ Some t → (g : FunctionRow) × (row_of fs main_word ≡ Some g) × (only_parameter g.params ≡ Some t)) →
        (g : FunctionRow) × (cond b (Some f) (row_of fs main_word) ≡ Some g) × (only_parameter g.params ≡ Some t)
    go true k r = (f, refl, k)
    go false k r = r k

only : (qs : List Param) (t : TypeId) → only_parameter qs ≡ Some t → (q : Param) × (qs ≡ q ∷ []) × (q.body ≡ t)
only [] t e = absurd (cc)
only (q ∷ []) t e = (q, refl, same q.body t e)
  where
    same : (x y : TypeId) → Some x ≡ Some y → x ≡ y
    same x y h = cc
only (q ∷ (r ∷ qs)) t e = absurd (cc)

pub has_main : (p : ProgramTable) (t : TypeId) → main_parameter p.functions ≡ Some t → HasMain p t
has_main p t e =
    let a = main_row p.functions t e in
    let b = only a.0.params t a.2 in
    record { row = a.0; param = b.0; found = a.1; only = b.1; body = b.2 }

-- there is a `main`, and it is safe on what its parameter's type allows
pub input_safe : (p : ProgramTable) → IsSafe (program_tree p) → (d : Document) → is_proper d ≡ true → IsInput p d → (n : ℕ) →
    (f : FunctionRow) × (row_of p.functions main_word ≡ Some f) × Meets (IsValueOf (names_of (program_tree p)) (function_definition p f).declared) (meaning (program_tree p) n d)
input_safe p safe d proper fits n = go (main_parameter p.functions) refl fits
  where
    go : (o : Option TypeId) → main_parameter p.functions ≡ o → FitsParameter p d o →
        (f : FunctionRow) × (row_of p.functions main_word ≡ Some f) × Meets (IsValueOf (names_of (program_tree p)) (function_definition p f).declared) (meaning (program_tree p) n d)
    go None e h = absurd h
    go (Some t) e h =
        let m = has_main p t e in
        let found : function_of (program_tree p).functions main_word ≡ Some (function_definition p m.row) = named p p.functions main_word ∙ ap (option_map (function_definition p)) m.found in
        let types : Fits (names_of (program_tree p)) (unplaced (placed_at p.types m.param.body.at)) d =
        subst (λ T. Fits (names_of (program_tree p)) T d) (sym (unplaced_at p.types m.param.body.at))
        (subst (λ (u : TypeId). Fits (names_of (program_tree p)) (tree p.types u) d) (sym m.body) h) in
        (m.row, m.found, safe (function_definition p m.row) (parameter p.types m.param) found (ap (map (parameter p.types)) m.only) d (proper, types) n)

pub stuck_never : (p : ProgramTable) → IsSafe (program_tree p) → (d : Document) → is_proper d ≡ true → IsInput p d → (n : ℕ) → meaning (program_tree p) n d ≡ Stuck → ⊥
stuck_never p safe d proper fits n e =
    let s = input_safe p safe d proper fits n in
    let h : Meets (IsValueOf (names_of (program_tree p)) (function_definition p s.0).declared) Stuck = subst (Meets (IsValueOf (names_of (program_tree p)) (function_definition p s.0).declared)) e s.2 in h

pub main_missing : (p : ProgramTable) → IsSafe (program_tree p) → (d : Document) → is_proper d ≡ true → IsInput p d → row_of p.functions main_word ≡ None → ⊥
main_missing p safe d proper fits e = let s = input_safe p safe d proper fits 0 in none (row_of p.functions main_word) s.0 s.1 e
  where
    none : (o : Option FunctionRow) (f : FunctionRow) → o ≡ Some f → o ≡ None → ⊥
    none (Some g) f h k = cc
    none None f h k = cc

pub value_declared : (p : ProgramTable) → IsSafe (program_tree p) → (d : Document) → is_proper d ≡ true → IsInput p d → (n : ℕ) (v : Document) (m : ℕ) → meaning (program_tree p) n d ≡ Done v m →
    (main : FunctionDefinition) → function_of (program_tree p).functions main_word ≡ Some main → IsValueOf (names_of (program_tree p)) main.declared v
value_declared p safe d proper fits n v m e main f =
    let s = input_safe p safe d proper fits n in
    let h : IsValueOf (names_of (program_tree p)) (function_definition p s.0).declared v = subst (Meets (IsValueOf (names_of (program_tree p)) (function_definition p s.0).declared)) e s.2 in
    let found : function_of (program_tree p).functions main_word ≡ Some (function_definition p s.0) = named p p.functions main_word ∙ ap (option_map (function_definition p)) s.1 in
    subst (λ (g : FunctionDefinition). IsValueOf (names_of (program_tree p)) g.declared v) (same (function_definition p s.0) main (sym found ∙ f)) h
  where
    same : (x y : FunctionDefinition) → Some x ≡ Some y → x ≡ y
    same x y h = cc

-- the call of `main` begins with its body
pub started : (p : ProgramTable) (ds : List Document) (input : Seq) (f : FunctionRow) (id : ExprId) (scope : Scope) → row_of p.functions main_word ≡ Some f → ProgramStands p → IsSound (program_tree p) → id ≡ f.body →
    scope.bindings.value.items ≡ bound_values f.params (value_of input ∷ []) → BelongsTo ds input → IsStart p ds input (Some (Evaluate id scope))
started p ds input f id scope found stands sound body bound b =
    let there : IsRunnable p f.body.at = body_below p main_word f stands sound found in (
      (subst (λ (i : ExprId). IsRunnable p i.at) (sym body) there, subst (ScopeStands (world ds [])) (sym bound) (bound_stands (world ds []) f.params (value_of input ∷ []) (value_of-stands (world ds []) input b, tt))),
      λ n. then_done (value_by (matcher p) (caller p) n (environment_in (world ds []) scope.bindings.value.items) (expression_in p id.at))
          ∙ ap (λ (i : ExprId). value_by (matcher p) (caller p) n (environment_in (world ds []) scope.bindings.value.items) (expression_in p i.at)) body
          ∙ ap (λ (bs : List (List ℕ × Value)). value_by (matcher p) (caller p) n (environment_in (world ds []) bs) (expression_in p f.body.at)) bound
          ∙ ap (λ env. value_by (matcher p) (caller p) n env (expression_in p f.body.at)) (bound_environment p.types (world ds []) f.params (value_of input ∷ []) ∙ ap (λ d. environment_of (map (parameter p.types) f.params) (d ∷ [])) (value_of-at (world ds []) input))
          ∙ sym (row_called p n main_word (document_at ds input ∷ []) ∙ ap (λ o. body_by (value_by (matcher p) (caller p) n) (option_map (function_definition p) o) (document_at ds input ∷ [])) found),
    )

-- with at least one call
pub called_more : (p : ProgramTable) (n : ℕ) (ds : List Document) → 1 ≤ n → caller p (suc (n - 1)) main_word ds ≡ caller p n main_word ds
called_more p n ds l = let e : suc (n - 1) ≡ n = omega arith in ap (λ k. caller p k main_word ds) e

pub ran : (p q : ProgramTable) → q ≡ p → IsProperProgram (program_tree p) → BindingsAgree → (n : ℕ) → 1 ≤ n → (ds new : List Document) (input : Seq) (o : Option Control) (start : Control) (e : Ending) →
    IsStart q ds input o → o ≡ Some start → IsEnding new (outcome q (world ds []) [] start (n - 1)) e → IsEnding new (meaning (program_tree p) n (document_at ds input)) e
ran p q same proper agree n l ds new input o start e s k h =
    let t : IsStart p ds input (Some start) = subst (λ (r : ProgramTable). IsStart r ds input (Some start)) same (subst (IsStart q ds input) k s) in
    let u : IsEnding new (outcome p (world ds []) [] start (n - 1)) e = subst (λ (r : ProgramTable). IsEnding new (outcome r (world ds []) [] start (n - 1)) e) same h in
    subst (λ x. IsEnding new x e) (t.1 (n - 1) ∙ called_more p n (document_at ds input ∷ []) l ∙ sym (meaning_called p proper agree n (document_at ds input))) u

pub left_within : (p : ProgramTable) → IsProperProgram (program_tree p) → BindingsAgree → (n : ℕ) (d v : Document) (m : ℕ) → meaning (program_tree p) n d ≡ Done v m → m ≤ n
left_within p proper agree n d v m e = leaves p n (d ∷ []) main_word v m (sym (meaning_called p proper agree n d) ∙ e)
