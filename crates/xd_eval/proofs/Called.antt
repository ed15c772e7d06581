-- A call whose last argument has its value.
use Rattle.std.proofs.Common.{◌≡◌, ℕ, zero, suc, ◌+◌, ◌-◌, ◌*◌, arith, List, [], ◌∷◌, ◌++◌, map, Some, None, refl, ap, sym, subst, ◌∙◌}
use Rattle.std.specs.Prelude.{option_map}
use Rattle.std.proofs.Math.Nat.{suc-mul}
use Rattle.std.specs.List.{AllByRecursion}
use Rattle.xd_doc.specs.Document.{Document}
use Rattle.xd_eval.specs.Values.{World, value_at, Stands}
use Rattle.xd_eval.specs.declared.joins.Value.{Value}
use Rattle.xd_syntax.specs.ExpressionTable.{shape_at}
use Rattle.xd_syntax.specs.FunctionRow.{FunctionRow}
use Rattle.xd_syntax.specs.Program.{function_of}
use Rattle.xd_syntax.specs.Kept.{ProgramTable, program_tree, function_definition}
use Rattle.xd_meaning.specs.Meaning.{Stuck, and_then, value_by, body_by}
use Rattle.xd_eval.specs.Waiting.{resumed}
use Rattle.xd_eval.specs.Functions.{row_of}
use Rattle.xd_eval.specs.Machine.{IsRunnable, environment_in, function_named, expression_in, all_waiting, ScopeStands, HasOneMore, HasNoneLeft, FramesStand, matcher, caller, outcome, most_steps, Leads, bound_values}
use Rattle.xd_eval.specs.declared.frame.Parts.{Parts}
use Rattle.xd_eval.specs.declared.frame.Scope.{Scope}
use Rattle.xd_eval.specs.declared.frame.Frame.{Frame}
use Rattle.xd_eval.specs.declared.frame.Frame.TheVariants.{Call}
use Rattle.xd_eval.specs.declared.frame.Control.TheVariants.{Evaluate, Give}
use Rattle.xd_eval.proofs.Calls.{call_body}
use Rattle.xd_eval.proofs.FunctionRowLemmas.{named}
use Rattle.xd_eval.proofs.Resumed.{ends_call, call_steps, bound_environment, bound_stands, body_steps}

-- a call, by its function's row
pub row_called : (p : ProgramTable) (m : ℕ) (w : List ℕ) (xs : List Document) →
    caller p (suc m) w xs ≡ body_by (value_by (matcher p) (caller p) m) (option_map (function_definition p) (row_of p.functions w)) xs
row_called p m w xs =
    call_body (matcher p) (program_tree p) m w xs ∙ ap (λ o. body_by (value_by (matcher p) (caller p) m) o xs) (named p p.functions w)

module _ (p : ProgramTable) (here : World) (parts more : Parts) (value : Value) (h : HasOneMore parts more value) (fs : List Frame)
    (l : HasNoneLeft p parts) where
  abbrev name : List ℕ
  name = function_named (shape_at p.exprs parts.expr.at)

  abbrev values : List Document
  values = map (value_at here) more.values.items

  pub call_stuck : (n : ℕ) → (n ≡ 0 → ⊥) → row_of p.functions name ≡ None → outcome p here (fs ++ Call parts ∷ []) (Give value) n ≡ Stuck
  call_stuck zero z e = absurd (z refl)
  call_stuck (suc m) z e =
      ends_call p here parts more value h fs (suc m) l
      ∙ ap (λ o. and_then o (resumed (matcher p) (caller p) (all_waiting p here fs)))
      (row_called p m name values ∙ ap (λ o. body_by (value_by (matcher p) (caller p) m) (option_map (function_definition p) o) values) e)

  pub call_leads : (stand : FramesStand p here fs) (n : ℕ) → (n ≡ 0 → ⊥) → (f : FunctionRow) → row_of p.functions name ≡ Some f → IsRunnable p f.body.at → (scope : Scope) →
      scope.bindings.value.items ≡ bound_values f.params more.values.items → AllByRecursion (Stands here) more.values.items →
      Leads p here (fs ++ Call parts ∷ []) (Give value) n here fs (n - 1) (Evaluate f.body scope)
  call_leads stand zero z f e b scope s v = absurd (z refl)
  call_leads stand (suc m) z f e b scope s v =
      let d : suc m - 1 ≡ m = omega arith in
      let B = most_steps (program_tree p).functions in
      let o : function_of (program_tree p).functions name ≡ Some (function_definition p f) = named p p.functions name ∙ ap (option_map (function_definition p)) e in
      let body = body_steps (program_tree p).functions name (function_definition p f) o in
      let t = suc-mul m (B + 1) in
      let c = call_steps p here parts more value h fs l in
      let g = ap (λ k. k * (B + 1)) d in
      record {
        same =
            ap (λ k. and_then (value_by (matcher p) (caller p) k (environment_in here scope.bindings.value.items) (expression_in p f.body.at)) (resumed (matcher p) (caller p) (all_waiting p here fs))) d
            ∙ ap (λ (bs : List (List ℕ × Value)). and_then (value_by (matcher p) (caller p) m (environment_in here bs) (expression_in p f.body.at)) (resumed (matcher p) (caller p) (all_waiting p here fs))) s
            ∙ ap (λ env. and_then (value_by (matcher p) (caller p) m env (expression_in p f.body.at)) (resumed (matcher p) (caller p) (all_waiting p here fs))) (bound_environment p.types here f.params more.values.items)
            ∙ sym (ends_call p here parts more value h fs (suc m) l
            ∙ ap (λ o. and_then o (resumed (matcher p) (caller p) (all_waiting p here fs)))
            (row_called p m name values ∙ ap (λ o. body_by (value_by (matcher p) (caller p) m) (option_map (function_definition p) o) values) e));
        control = (b, subst (ScopeStands here) (sym s) (bound_stands here f.params more.values.items v));
        frames = stand;
        less = omega arith;
      }
