-- What a value leads to among the parts of a sequence or of a call.
use Rattle.std.proofs.Common.{◌≡◌, ℕ, suc, ◌+◌, ◌*◌, ◌<◌, ◌≤◌, arith, Bool, true, false, cond, List, [], ◌∷◌, ◌++◌, map, drop, length, get_or, Option, Some, None, refl, ap, sym, subst, ◌∙◌, length-append, inl, inr}
use Rattle.std.specs.List.{AllByRecursion}
use Rattle.std.specs.Option.{IfSome}
use Rattle.std.specs.Str.{bytes_eq}
use Rattle.std.proofs.lemmas.List.{drop_more, drop_all, map-append}
use Rattle.xd_eval.specs.Values.{World, value_at, Stands, KeepsValues}
use Rattle.xd_eval.specs.declared.joins.Value.{Value}
use Rattle.xd_doc.specs.Members.{IsOneOf}
use Rattle.xd_doc.proofs.Lists.{all_append, all_at}
use Rattle.xd_doc.proofs.Options.{some_same}
use Rattle.xd_syntax.specs.ExpressionTable.{ExprRow, shape_at}
use Rattle.xd_syntax.specs.FunctionRow.{FunctionRow}
use Rattle.xd_syntax.specs.Table.{Row}
use Rattle.xd_syntax.specs.Program.{FunctionDefinition, function_of}
use Rattle.xd_syntax.specs.Kept.{ProgramTable, ProgramStands, FunctionStands, program_tree, function_definition, parameter}
use Rattle.xd_syntax.specs.RecursionFaults.{IsSound}
use Rattle.xd_syntax.proofs.Members.{map_mem}
use Rattle.xd_pattern_runs.proofs.ClausesLaw.{clauses_are_linear}
use Rattle.xd_meaning.specs.Meaning.{Environment, and_then, value_by, bound}
use Rattle.xd_syntax.specs.declared.exprs.ExprId.{ExprId}
use Rattle.xd_syntax.specs.declared.program.Param.{Param}
use Rattle.xd_eval.specs.Waiting.{Waiting, in_sequence, in_call, joined_all, resumed, steps, waiting_steps, all_steps}
use Rattle.xd_eval.specs.Functions.{row_of}
use Rattle.xd_eval.specs.Machine.{IsRunnable, environment_in, parts_of, function_named, expression_in, before, after, waiting_of, all_waiting, ScopeStands, IsSequence, IsCall, PartsStand, HasOneMore, HasNoneLeft, IsNextPart, part_numbers, FrameStands, FramesStand, matcher, caller, outcome, most_steps, Leads, bound_values}
use Rattle.xd_eval.specs.declared.frame.Parts.{Parts}
use Rattle.xd_eval.specs.declared.frame.Scope.{Scope}
use Rattle.xd_eval.specs.declared.frame.Frame.{Frame}
use Rattle.xd_eval.specs.declared.frame.Frame.TheVariants.{Sequence, Call}
use Rattle.xd_eval.specs.declared.frame.Control.TheVariants.{Evaluate, Give}
use Rattle.xd_eval.proofs.OutcomeLemmas.{next_part, next_argument}
use Rattle.xd_eval.proofs.Waits.{all_kept, frames_kept, waiting_more}

module _ (p : ProgramTable) (here : World) (parts : Parts) (more : Parts) (value : Value) (h : HasOneMore parts more value) where
  before_more : before here more ≡ before here parts ++ value_at here value ∷ []
  before_more = ap (map (value_at here)) h.values ∙ map-append (value_at here) parts.values.items (value ∷ [])

  count_more : length more.values.items ≡ length parts.values.items + 1
  count_more = ap length h.values ∙ length-append parts.values.items (value ∷ [])

  after_more : after p more ≡ map (expression_in p) (drop (length parts.values.items + 1 + 1) (part_numbers p parts))
  after_more =
      ap (λ (i : ExprId). map (expression_in p) (drop (length more.values.items + 1) (parts_of (shape_at p.exprs i.at)))) h.expr
      ∙ ap (λ k. map (expression_in p) (drop (k + 1) (part_numbers p parts))) count_more

  pub after_next : (i : ℕ) → length parts.values.items + 1 < length (part_numbers p parts) → i ≡ get_or (part_numbers p parts) (length parts.values.items + 1) i →
      after p parts ≡ expression_in p i ∷ after p more
  after_next i l g =
      ap (map (expression_in p)) (drop_more (part_numbers p parts) (length parts.values.items + 1) i l)
      ∙ ap (λ j. expression_in p j ∷ map (expression_in p) (drop (length parts.values.items + 1 + 1) (part_numbers p parts))) (sym g)
      ∙ ap (λ es. expression_in p i ∷ es) (sym after_more)

  pub after_last : HasNoneLeft p parts → after p parts ≡ []
  after_last l = ap (map (expression_in p)) (drop_all (length parts.values.items + 1) (part_numbers p parts) l)

  pub more_stands : PartsStand p here parts → Stands here value → length parts.values.items + 1 < length (part_numbers p parts) → PartsStand p here more
  more_stands s b l =
      record {
        there = subst (λ (i : ExprId). IsRunnable p i.at) (sym h.expr) s.there;
        waits = subst (λ k. k < length (parts_of (shape_at p.exprs more.expr.at))) (sym count_more)
            (subst (λ (i : ExprId). length parts.values.items + 1 < length (parts_of (shape_at p.exprs i.at))) (sym h.expr) l);
        values_there = subst (AllByRecursion (Stands here)) (sym h.values) (all_append (Stands here) parts.values.items (value ∷ []) s.values_there (b, tt));
        scope_stands = subst (ScopeStands here) (sym h.scope) s.scope_stands;
      }

  environment_more : environment_in here more.scope.bindings.value.items ≡ environment_in here parts.scope.bindings.value.items
  environment_more = ap (environment_in here) h.scope

  module _ (fs gs : List Frame) (stand : FramesStand p here fs) (ps : PartsStand p here parts) (b : Stands here value) (n : ℕ) (next : ExprId) (scope : Scope)
      (is_next : IsNextPart p parts next scope) where
    abbrev env : Environment
    env = environment_in here parts.scope.bindings.value.items

    abbrev leads_by : (f q : Frame) (w v : Waiting) → gs ≡ fs ++ q ∷ [] → FrameStands p here q → waiting_of p here f ≡ w → waiting_of p here q ≡ v →
        (resumed (matcher p) (caller p) (w ∷ all_waiting p here fs) (value_at here value) n
        ≡ and_then (value_by (matcher p) (caller p) n env (expression_in p next.at)) (resumed (matcher p) (caller p) (v ∷ all_waiting p here fs))) →
        steps (expression_in p next.at) + waiting_steps v < waiting_steps w →
        Leads p here (fs ++ f ∷ []) (Give value) n here gs n (Evaluate next scope)
    leads_by f q w v e t wf wq k less =
        let a : all_waiting p here gs ≡ v ∷ all_waiting p here fs = ap (all_waiting p here) e ∙ waiting_more p here fs q ∙ ap (λ x. x ∷ all_waiting p here fs) wq in
        let c : all_waiting p here (fs ++ f ∷ []) ≡ w ∷ all_waiting p here fs = waiting_more p here fs f ∙ ap (λ x. x ∷ all_waiting p here fs) wf in
        let a' = ap all_steps a in
        let c' = ap all_steps c in
        let m = n * (most_steps (program_tree p).functions + 1) in
        record {
          same = ap (λ ws. and_then (value_by (matcher p) (caller p) n (environment_in here scope.bindings.value.items) (expression_in p next.at)) (resumed (matcher p) (caller p) ws)) a
              ∙ ap (λ (bs : List (List ℕ × Value)). and_then (value_by (matcher p) (caller p) n (environment_in here bs) (expression_in p next.at)) (resumed (matcher p) (caller p) (v ∷ all_waiting p here fs))) is_next.scope_same
              ∙ sym k ∙ ap (λ ws. resumed (matcher p) (caller p) ws (value_at here value) n) (sym c);
          control = (is_next.runnable, subst (ScopeStands here) (sym is_next.scope_same) ps.scope_stands);
          frames = subst (FramesStand p here) (sym e) (all_append (FrameStands p here) fs (q ∷ []) stand (t, tt));
          less = omega arith;
        }

    pub next_in_sequence : gs ≡ fs ++ Sequence more ∷ [] → IsSequence (shape_at p.exprs parts.expr.at) → Leads p here (fs ++ Sequence parts ∷ []) (Give value) n here gs n (Evaluate next scope)
    next_in_sequence e s =
        leads_by (Sequence parts) (Sequence more) (in_sequence env (before here parts) (expression_in p next.at ∷ after p more)) (in_sequence env (before here parts ++ value_at here value ∷ []) (after p more)) e
        (subst (λ (i : ExprId). IsSequence (shape_at p.exprs i.at)) (sym h.expr) s, more_stands ps b is_next.waits)
        (ap (in_sequence env (before here parts)) (after_next next.at is_next.waits is_next.part))
        (ap (λ x. in_sequence x (before here more) (after p more)) environment_more ∙ ap (λ x. in_sequence env x (after p more)) before_more)
        (next_part (matcher p) (caller p) n env (before here parts) (value_at here value) (expression_in p next.at) (after p more) (all_waiting p here fs))
        (omega arith)

    pub next_in_call : gs ≡ fs ++ Call more ∷ [] → IsCall (shape_at p.exprs parts.expr.at) → Leads p here (fs ++ Call parts ∷ []) (Give value) n here gs n (Evaluate next scope)
    next_in_call e s =
        let f : List ℕ = function_named (shape_at p.exprs parts.expr.at) in
        leads_by (Call parts) (Call more) (in_call env f (before here parts) (expression_in p next.at ∷ after p more)) (in_call env f (before here parts ++ value_at here value ∷ []) (after p more)) e
        (subst (λ (i : ExprId). IsCall (shape_at p.exprs i.at)) (sym h.expr) s, more_stands ps b is_next.waits)
        (ap (in_call env f (before here parts)) (after_next next.at is_next.waits is_next.part))
        (ap (λ x. in_call x (function_named (shape_at p.exprs more.expr.at)) (before here more) (after p more)) environment_more
        ∙ ap (λ x. in_call env (function_named (shape_at p.exprs more.expr.at)) x (after p more)) before_more
        ∙ ap (λ (i : ExprId). in_call env (function_named (shape_at p.exprs i.at)) (before here parts ++ value_at here value ∷ []) (after p more)) h.expr)
        (next_argument (matcher p) (caller p) n env f (before here parts) (value_at here value) (expression_in p next.at) (after p more) (all_waiting p here fs))
        (omega arith)

  -- the last part of a sequence has its value
  pub ends_sequence : (fs : List Frame) → FramesStand p here fs → (new : World) → KeepsValues here new → (made : Value) → Stands new made → value_at new made ≡ joined_all (map (value_at here) more.values.items) →
      HasNoneLeft p parts → (n : ℕ) → Leads p here (fs ++ Sequence parts ∷ []) (Give value) n new fs n (Give made)
  ends_sequence fs s new k made b d l n =
      let a : all_waiting p here (fs ++ Sequence parts ∷ []) ≡ in_sequence (environment_in here parts.scope.bindings.value.items) (before here parts) [] ∷ all_waiting p here fs =
      waiting_more p here fs (Sequence parts) ∙ ap (λ es. in_sequence (environment_in here parts.scope.bindings.value.items) (before here parts) es ∷ all_waiting p here fs) (after_last l) in
      let w = all_kept here new k p fs s in
      let a' = ap all_steps a in
      let w' = ap all_steps w in
      let m = n * (most_steps (program_tree p).functions + 1) in
      record {
        same = ap (λ ws. resumed (matcher p) (caller p) ws (value_at new made) n) w
            ∙ ap (λ x. resumed (matcher p) (caller p) (all_waiting p here fs) x n) (d ∙ ap joined_all before_more)
            ∙ ap (λ ws. resumed (matcher p) (caller p) ws (value_at here value) n) (sym a);
        control = b;
        frames = frames_kept here new k p fs s;
        less = omega arith;
      }

  -- the last argument of a call has its value
  pub ends_call : (fs : List Frame) (n : ℕ) → HasNoneLeft p parts →
      outcome p here (fs ++ Call parts ∷ []) (Give value) n
      ≡ and_then (caller p n (function_named (shape_at p.exprs parts.expr.at)) (map (value_at here) more.values.items)) (resumed (matcher p) (caller p) (all_waiting p here fs))
  ends_call fs n l =
      let env : Environment = environment_in here parts.scope.bindings.value.items in
      let f : List ℕ = function_named (shape_at p.exprs parts.expr.at) in
      let a : all_waiting p here (fs ++ Call parts ∷ []) ≡ in_call env f (before here parts) [] ∷ all_waiting p here fs =
      waiting_more p here fs (Call parts) ∙ ap (λ es. in_call env f (before here parts) es ∷ all_waiting p here fs) (after_last l) in
      ap (λ ws. resumed (matcher p) (caller p) ws (value_at here value) n) a
      ∙ ap (λ xs. and_then (caller p n f xs) (resumed (matcher p) (caller p) (all_waiting p here fs))) (sym before_more)

  pub call_steps : (fs : List Frame) → HasNoneLeft p parts → all_steps (all_waiting p here (fs ++ Call parts ∷ [])) ≡ suc (all_steps (all_waiting p here fs))
  call_steps fs l =
      let env : Environment = environment_in here parts.scope.bindings.value.items in
      let f : List ℕ = function_named (shape_at p.exprs parts.expr.at) in
      let a : all_waiting p here (fs ++ Call parts ∷ []) ≡ in_call env f (before here parts) [] ∷ all_waiting p here fs =
      waiting_more p here fs (Call parts) ∙ ap (λ es. in_call env f (before here parts) es ∷ all_waiting p here fs) (after_last l) in
      let a' = ap all_steps a in omega arith

-- parameters and their documents
pub bound_environment : (types : List Row) (here : World) (qs : List Param) (values : List Value) →
    environment_in here (bound_values qs values) ≡ bound (map (parameter types) qs) (map (value_at here) values)
bound_environment types here [] values = refl
bound_environment types here (q ∷ qs) [] = refl
bound_environment types here (q ∷ qs) (value ∷ values) = ap (λ env. (q.name, value_at here value) ∷ env) (bound_environment types here qs values)

pub bound_stands : (here : World) (qs : List Param) (values : List Value) → AllByRecursion (Stands here) values → ScopeStands here (bound_values qs values)
bound_stands here [] values s = tt
bound_stands here (q ∷ qs) [] s = tt
bound_stands here (q ∷ qs) (value ∷ values) s = (s.0, bound_stands here qs values s.1)

-- no function's body takes more steps than all of them
pub body_steps : (fs : List FunctionDefinition) (w : List ℕ) (f : FunctionDefinition) → function_of fs w ≡ Some f → steps f.body ≤ most_steps fs
body_steps [] w f e = absurd (cc)
body_steps (g ∷ fs) w f e = go (bytes_eq g.name w) e (body_steps fs w f)
  where
    go : (b : Bool) → cond b (Some g) (function_of fs w) ≡ Some f → (function_of fs w ≡ Some f → steps f.body ≤ most_steps fs) → steps f.body ≤ most_steps (g ∷ fs)
    go true k r = let s : g ≡ f = same g f k in let t = ap (λ (x : FunctionDefinition). steps x.body) s in omega arith
      where
        same : (x y : FunctionDefinition) → Some x ≡ Some y → x ≡ y
        same x y h = cc
    go false k r = let i = r k in omega arith

pub part_below : (p : ProgramTable) (is : List ℕ) (k i : ℕ) → AllByRecursion (IsRunnable p) is → k < length is → i ≡ get_or is k i → IsRunnable p i
part_below p is k i b l e = subst (IsRunnable p) (sym e) (all_at (IsRunnable p) is b k i l)

-- a function's body is runnable
row_there : (fs : List FunctionRow) (w : List ℕ) (f : FunctionRow) → row_of fs w ≡ Some f → IsOneOf f fs
row_there [] w f e = absurd (cc)
row_there (g ∷ fs) w f e = go (bytes_eq g.name w) e (row_there fs w f)
  where
    go : (b : Bool) → cond b (Some g) (row_of fs w) ≡ Some f → (row_of fs w ≡ Some f → IsOneOf f fs) → IsOneOf f (g ∷ fs)
    go true k r = inl (some_same g f k)
    go false k r = inr (r k)

body_there : (types : List Row) (exprs : List ExprRow) (fs : List FunctionRow) (f : FunctionRow) → AllByRecursion (FunctionStands types exprs) fs → IsOneOf f fs → f.body.at < length exprs
body_there types exprs [] f s m = absurd m
body_there types exprs (g ∷ fs) f s (inl e) = subst (λ (x : FunctionRow). x.body.at < length exprs) e s.0.body
body_there types exprs (g ∷ fs) f s (inr m) = body_there types exprs fs f s.1 m

pub body_below : (p : ProgramTable) (w : List ℕ) (f : FunctionRow) → ProgramStands p → IsSound (program_tree p) → row_of p.functions w ≡ Some f → IsRunnable p f.body.at
body_below p w f stands sound e =
    let m = row_there p.functions w f e in
    record {
      there = body_there p.types p.exprs p.functions f stands.functions m;
      linear = λ A a. clauses_are_linear (program_tree p) sound.names (function_definition p f) (map_mem (function_definition p) f p.functions m) A a;
    }

pub stands_of : (p : ProgramTable) (o : Option FunctionRow) (f : FunctionRow) → o ≡ Some f → IfSome o (λ (g : FunctionRow). IsRunnable p g.body.at) → IsRunnable p f.body.at
stands_of p (Some g) f e h = subst (λ (x : FunctionRow). IsRunnable p x.body.at) (some_same g f e) h
stands_of p None f e h = absurd (cc)
