-- The first step of each expression.
use Rattle.std.proofs.Common.{◌≡◌, ℕ, ◌+◌, ◌*◌, ◌<◌, ◌≤◌, arith, Bool, true, false, cond, List, [], ◌∷◌, ◌++◌, map, drop, length, get_or, Option, Some, None, refl, ap, sym, subst, ◌∙◌}
use Rattle.std.specs.List.{AllByRecursion}
use Rattle.std.specs.Str.{bytes_eq}
use Rattle.xd_base.specs.declared.Place.{Place}
use Rattle.xd_doc.specs.Document.{Document, empty, text}
use Rattle.xd_eval.specs.Values.{World, value_at, Stands, KeepsValues}
use Rattle.xd_eval.specs.declared.joins.Value.{Value}
use Rattle.xd_doc.proofs.Lists.{all_append}
use Rattle.xd_syntax.specs.Expression.{Expression, Quoted, Variable, Called, Matched, joined, arguments_of, place_of_expression}
use Rattle.xd_syntax.specs.ExpressionTable.{ExprShape, seq_shape, call_shape, match_shape, shape_at}
use Rattle.xd_syntax.specs.Kept.{ProgramTable, program_tree}
use Rattle.xd_meaning.specs.Meaning.{Outcome, looked_up, done_or_stuck, and_then, value_by}
use Rattle.xd_syntax.specs.declared.exprs.ExprId.{ExprId}
use Rattle.xd_eval.specs.Waiting.{Waiting, in_sequence, in_call, in_match, resumed, steps, argument_steps, waiting_steps, all_steps}
use Rattle.xd_eval.specs.Machine.{IsRunnable, environment_in, parts_of, function_named, clause_numbers_of, expression_in, clauses_in, before, after, waiting_of, all_waiting, ScopeStands, IsSequence, IsCall, PartsStand, FrameStands, FramesStand, matcher, caller, most_steps, IsStep, found_in, given, IsFound}
use Rattle.xd_eval.specs.declared.frame.Parts.{Parts}
use Rattle.xd_eval.specs.declared.frame.Frame.{Frame}
use Rattle.xd_eval.specs.declared.frame.Frame.TheVariants.{Sequence, Call, Match}
use Rattle.xd_eval.specs.declared.frame.Control.TheVariants.{Evaluate}
use Rattle.xd_eval.proofs.OutcomeLemmas.{sequence_step, call_step, match_step}
use Rattle.xd_eval.proofs.Waits.{all_kept, waiting_more}
use Rattle.xd_eval.specs.declared.frame.Scope.{Scope}

-- what a scope finds is what its environment has
pub found_looked_up : (here : World) (bs : List (List ℕ × Value)) (x : List ℕ) → ScopeStands here bs → IsFound here (found_in bs x) (looked_up (environment_in here bs) x)
found_looked_up here [] x s = tt
found_looked_up here (b ∷ bs) x s = go (bytes_eq b.0 x) (found_looked_up here bs x s.1)
  where
    go : (t : Bool) → IsFound here (found_in bs x) (looked_up (environment_in here bs) x) →
        IsFound here (cond t (Some b.1) (found_in bs x)) (cond t (Some (value_at here b.1)) (looked_up (environment_in here bs) x))
    go true h = (s.0, refl)
    go false h = h

module _ (p : ProgramTable) (here : World) (fs : List Frame) (stand : FramesStand p here fs) (id : ExprId) (bs : List (List ℕ × Value)) (n : ℕ) where
  -- what comes of the expression, where these wait
  abbrev asked : Expression → Outcome Document
  asked e = and_then (value_by (matcher p) (caller p) n (environment_in here bs) e) (resumed (matcher p) (caller p) (all_waiting p here fs))

  pub gives_text : (new : World) → KeepsValues here new → (q : Place) (s : List ℕ) → expression_in p id.at ≡ Quoted q s → (d : Document) → d ≡ text s empty →
      resumed (matcher p) (caller p) (all_waiting p new fs) d n ≡ asked (expression_in p id.at)
  gives_text new k q s e d h =
      ap (λ ws. resumed (matcher p) (caller p) ws d n) (all_kept here new k p fs stand)
      ∙ ap (λ x. resumed (matcher p) (caller p) (all_waiting p here fs) x n) h
      ∙ sym (ap asked e)

pub first_of_joined : (q : Place) (e : Expression) (es : List Expression) → steps e + argument_steps (arguments_of es) ≤ steps (joined q (e ∷ es)) + 1
first_of_joined q e [] = omega arith
first_of_joined q e (f ∷ es) = let i = first_of_joined (place_of_expression f) f es in omega arith

-- the parts of a list of two or more take fewer steps than their sequence
pub joined_steps : (q : Place) (e f : Expression) (es : List Expression) → steps e + argument_steps (arguments_of (f ∷ es)) < steps (joined q (e ∷ (f ∷ es)))
joined_steps q e f es = let i = first_of_joined (place_of_expression f) f es in omega arith

-- a sequence or a call none of whose parts has a value yet
pub after_first : (p : ProgramTable) (parts : Parts) (id : ExprId) (f : ExprShape) → parts.expr ≡ id → parts.values.items ≡ [] → shape_at p.exprs id.at ≡ f →
    after p parts ≡ map (expression_in p) (drop 1 (parts_of f))
after_first p parts id f e v h =
    ap (λ (i : ExprId). map (expression_in p) (drop (length parts.values.items + 1) (parts_of (shape_at p.exprs i.at)))) e
    ∙ ap (λ (ss : List Value). map (expression_in p) (drop (length ss + 1) (parts_of (shape_at p.exprs id.at)))) v
    ∙ ap (λ g. map (expression_in p) (drop 1 (parts_of g))) h

pub sequence_waits : (p : ProgramTable) (here : World) (parts : Parts) (id : ExprId) (bs : List (List ℕ × Value)) (f : ExprShape) →
    parts.expr ≡ id → parts.values.items ≡ [] → parts.scope.bindings.value.items ≡ bs → shape_at p.exprs id.at ≡ f →
    waiting_of p here (Sequence parts) ≡ in_sequence (environment_in here bs) [] (map (expression_in p) (drop 1 (parts_of f)))
sequence_waits p here parts id bs f e v s h =
    ap (λ (xs : List (List ℕ × Value)). in_sequence (environment_in here xs) (before here parts) (after p parts)) s
    ∙ ap (λ (ss : List Value). in_sequence (environment_in here bs) (map (value_at here) ss) (after p parts)) v
    ∙ ap (in_sequence (environment_in here bs) []) (after_first p parts id f e v h)

pub call_waits : (p : ProgramTable) (here : World) (parts : Parts) (id : ExprId) (bs : List (List ℕ × Value)) (f : ExprShape) →
    parts.expr ≡ id → parts.values.items ≡ [] → parts.scope.bindings.value.items ≡ bs → shape_at p.exprs id.at ≡ f →
    waiting_of p here (Call parts) ≡ in_call (environment_in here bs) (function_named f) [] (map (expression_in p) (drop 1 (parts_of f)))
call_waits p here parts id bs f e v s h =
    ap (λ (xs : List (List ℕ × Value)). in_call (environment_in here xs) (function_named (shape_at p.exprs parts.expr.at)) (before here parts) (after p parts)) s
    ∙ ap (λ (ss : List Value). in_call (environment_in here bs) (function_named (shape_at p.exprs parts.expr.at)) (map (value_at here) ss) (after p parts)) v
    ∙ ap (λ (i : ExprId). in_call (environment_in here bs) (function_named (shape_at p.exprs i.at)) [] (after p parts)) e
    ∙ ap (λ g. in_call (environment_in here bs) (function_named g) [] (after p parts)) h
    ∙ ap (in_call (environment_in here bs) (function_named f) []) (after_first p parts id f e v h)

-- what is so of the frame of a sequence or a call none of whose parts has a value yet
pub parts_stand : (p : ProgramTable) (here : World) (parts : Parts) (id : ExprId) (bs : List (List ℕ × Value)) (f : ExprShape) →
    parts.expr ≡ id → parts.values.items ≡ [] → parts.scope.bindings.value.items ≡ bs → shape_at p.exprs id.at ≡ f → IsRunnable p id.at → 0 < length (parts_of f) → ScopeStands here bs →
    PartsStand p here parts
parts_stand p here parts id bs f e v s h b l k =
    record {
      there = subst (λ (i : ExprId). IsRunnable p i.at) (sym e) b;
      waits = subst (λ (ss : List Value). length ss < length (parts_of (shape_at p.exprs parts.expr.at))) (sym v)
          (subst (λ (i : ExprId). 0 < length (parts_of (shape_at p.exprs i.at))) (sym e) (subst (λ g. 0 < length (parts_of g)) (sym h) l));
      values_there = subst (AllByRecursion (Stands here)) (sym v) tt;
      scope_stands = subst (ScopeStands here) (sym s) k;
    }

pub is_sequence : (p : ProgramTable) (parts : Parts) (id : ExprId) (is : List ℕ) → parts.expr ≡ id → shape_at p.exprs id.at ≡ seq_shape is → IsSequence (shape_at p.exprs parts.expr.at)
is_sequence p parts id is e h =
    subst (λ (i : ExprId). IsSequence (shape_at p.exprs i.at)) (sym e) (subst IsSequence (sym h) refl)

pub is_call : (p : ProgramTable) (parts : Parts) (id : ExprId) (g : List ℕ) (is : List ℕ) → parts.expr ≡ id → shape_at p.exprs id.at ≡ call_shape g is → IsCall (shape_at p.exprs parts.expr.at)
is_call p parts id g is e h = subst (λ (i : ExprId). IsCall (shape_at p.exprs i.at)) (sym e) (subst IsCall (sym h) refl)

-- a new frame waits for the value of the expression's first part
pub record IsEntered (p : ProgramTable) (here : World) (fs gs : List Frame) (bs : List (List ℕ × Value)) (n : ℕ) (whole first : Expression) : Type 0 where
  pub same : and_then (value_by (matcher p) (caller p) n (environment_in here bs) first) (resumed (matcher p) (caller p) (all_waiting p here gs))
      ≡ and_then (value_by (matcher p) (caller p) n (environment_in here bs) whole) (resumed (matcher p) (caller p) (all_waiting p here fs))
  pub stand : FramesStand p here gs
  pub less : steps first + all_steps (all_waiting p here gs) < steps whole + all_steps (all_waiting p here fs)

pub enters : (p : ProgramTable) (here : World) (fs gs : List Frame) (f : Frame) (w : Waiting) (bs : List (List ℕ × Value)) (n : ℕ) (whole first : Expression) →
    gs ≡ fs ++ f ∷ [] → FramesStand p here fs → FrameStands p here f → waiting_of p here f ≡ w →
    and_then (value_by (matcher p) (caller p) n (environment_in here bs) whole) (resumed (matcher p) (caller p) (all_waiting p here fs))
    ≡ and_then (value_by (matcher p) (caller p) n (environment_in here bs) first) (resumed (matcher p) (caller p) (w ∷ all_waiting p here fs)) →
    steps first + waiting_steps w < steps whole →
    IsEntered p here fs gs bs n whole first
enters p here fs gs f w bs n whole first e s t h k l =
    let a : all_waiting p here gs ≡ w ∷ all_waiting p here fs = ap (all_waiting p here) e ∙ waiting_more p here fs f ∙ ap (λ v. v ∷ all_waiting p here fs) h in
    record {
      same = ap (λ ws. and_then (value_by (matcher p) (caller p) n (environment_in here bs) first) (resumed (matcher p) (caller p) ws)) a ∙ sym k;
      stand = subst (FramesStand p here) (sym e) (all_append (FrameStands p here) fs (f ∷ []) s (t, tt));
      less = (let b = ap all_steps a in omega arith);
    }

pub enters_sequence : (p : ProgramTable) (here : World) (fs gs : List Frame) (parts : Parts) (id : ExprId) (bs : List (List ℕ × Value)) (n : ℕ) (q : Place) (is : List ℕ) (first : ℕ) →
    gs ≡ fs ++ Sequence parts ∷ [] → FramesStand p here fs → ScopeStands here bs → IsRunnable p id.at →
    parts.expr ≡ id → parts.values.items ≡ [] → parts.scope.bindings.value.items ≡ bs → shape_at p.exprs id.at ≡ seq_shape is →
    expression_in p id.at ≡ joined q (map (expression_in p) is) → 2 ≤ length is → first ≡ get_or is 0 first →
    IsEntered p here fs gs bs n (expression_in p id.at) (expression_in p first)
enters_sequence p here fs gs parts id bs n q [] first e s k b ei ev es h x l g = absurd (omega arith)
enters_sequence p here fs gs parts id bs n q (i ∷ []) first e s k b ei ev es h x l g = absurd (omega arith)
enters_sequence p here fs gs parts id bs n q (i ∷ (j ∷ is)) first e s k b ei ev es h x l g =
    let first_is : expression_in p first ≡ expression_in p i = ap (expression_in p) g in
    let w : Waiting = in_sequence (environment_in here bs) [] (map (expression_in p) (j ∷ is)) in
    let a = ap steps x in
    let a' = ap steps first_is in
    let m = joined_steps q (expression_in p i) (expression_in p j) (map (expression_in p) is) in
    enters p here fs gs (Sequence parts) w bs n (expression_in p id.at) (expression_in p first) e s
    (is_sequence p parts id (i ∷ (j ∷ is)) ei h, parts_stand p here parts id bs (seq_shape (i ∷ (j ∷ is))) ei ev es h b (omega arith) k)
    (sequence_waits p here parts id bs (seq_shape (i ∷ (j ∷ is))) ei ev es h)
    (ap (λ y. and_then (value_by (matcher p) (caller p) n (environment_in here bs) y) (resumed (matcher p) (caller p) (all_waiting p here fs))) x
    ∙ sequence_step (matcher p) (caller p) n (environment_in here bs) q (expression_in p i) (map (expression_in p) (j ∷ is)) (all_waiting p here fs)
    ∙ ap (λ y. and_then (value_by (matcher p) (caller p) n (environment_in here bs) y) (resumed (matcher p) (caller p) (w ∷ all_waiting p here fs))) (sym first_is))
    (omega arith)

pub enters_call : (p : ProgramTable) (here : World) (fs gs : List Frame) (parts : Parts) (id : ExprId) (bs : List (List ℕ × Value)) (n : ℕ) (q : Place) (f : List ℕ) (is : List ℕ) (first : ℕ) →
    gs ≡ fs ++ Call parts ∷ [] → FramesStand p here fs → ScopeStands here bs → IsRunnable p id.at →
    parts.expr ≡ id → parts.values.items ≡ [] → parts.scope.bindings.value.items ≡ bs → shape_at p.exprs id.at ≡ call_shape f is →
    expression_in p id.at ≡ Called q f (arguments_of (map (expression_in p) is)) → 1 ≤ length is → first ≡ get_or is 0 first →
    IsEntered p here fs gs bs n (expression_in p id.at) (expression_in p first)
enters_call p here fs gs parts id bs n q f [] first e s k b ei ev es h x l g = absurd (omega arith)
enters_call p here fs gs parts id bs n q f (i ∷ is) first e s k b ei ev es h x l g =
    let first_is : expression_in p first ≡ expression_in p i = ap (expression_in p) g in
    let w : Waiting = in_call (environment_in here bs) f [] (map (expression_in p) is) in
    let a = ap steps x in
    let a' = ap steps first_is in
    enters p here fs gs (Call parts) w bs n (expression_in p id.at) (expression_in p first) e s
    (is_call p parts id f (i ∷ is) ei h, parts_stand p here parts id bs (call_shape f (i ∷ is)) ei ev es h b (omega arith) k)
    (call_waits p here parts id bs (call_shape f (i ∷ is)) ei ev es h)
    (ap (λ y. and_then (value_by (matcher p) (caller p) n (environment_in here bs) y) (resumed (matcher p) (caller p) (all_waiting p here fs))) x
    ∙ call_step (matcher p) (caller p) n (environment_in here bs) q f (expression_in p i) (map (expression_in p) is) (all_waiting p here fs)
    ∙ ap (λ y. and_then (value_by (matcher p) (caller p) n (environment_in here bs) y) (resumed (matcher p) (caller p) (w ∷ all_waiting p here fs))) (sym first_is))
    (omega arith)

pub enters_match : (p : ProgramTable) (here : World) (fs gs : List Frame) (f : Frame) (id : ExprId) (bs : List (List ℕ × Value)) (n : ℕ) (q : Place) (i : ℕ) (cs : List (ℕ × ℕ)) →
    gs ≡ fs ++ f ∷ [] → FramesStand p here fs → FrameStands p here f → waiting_of p here f ≡ in_match (environment_in here bs) (clauses_in p cs) →
    expression_in p id.at ≡ Matched q (expression_in p i) (clauses_in p cs) →
    IsEntered p here fs gs bs n (expression_in p id.at) (expression_in p i)
enters_match p here fs gs f id bs n q i cs e s t h x =
    let a = ap steps x in
    enters p here fs gs f (in_match (environment_in here bs) (clauses_in p cs)) bs n (expression_in p id.at) (expression_in p i) e s t h
    (ap (λ y. and_then (value_by (matcher p) (caller p) n (environment_in here bs) y) (resumed (matcher p) (caller p) (all_waiting p here fs))) x
    ∙ match_step (matcher p) (caller p) n (environment_in here bs) q (expression_in p i) (clauses_in p cs) (all_waiting p here fs))
    (omega arith)

pub gives_variable : (p : ProgramTable) (here : World) (fs : List Frame) → FramesStand p here fs → (id : ExprId) (scope : Scope) (n : ℕ) (q : Place) (x : List ℕ) →
    expression_in p id.at ≡ Variable q x → ScopeStands here scope.bindings.value.items → (o : Option Value) → o ≡ found_in scope.bindings.value.items x →
    IsStep p here fs (Evaluate id scope) n here fs n (given o)
gives_variable p here fs s id scope n q x e k o h = go o (looked_up (environment_in here scope.bindings.value.items) x) refl (subst (λ r. IsFound here r (looked_up (environment_in here scope.bindings.value.items) x)) (sym h) (found_looked_up here scope.bindings.value.items x k))
  where
    go : (o : Option Value) (r : Option Document) → looked_up (environment_in here scope.bindings.value.items) x ≡ r → IsFound here o r → IsStep p here fs (Evaluate id scope) n here fs n (given o)
    go (Some value) (Some d) t f =
        let a = ap steps e in
        let m = n * (most_steps (program_tree p).functions + 1) in
        record {
          same = ap (λ y. resumed (matcher p) (caller p) (all_waiting p here fs) y n) f.1
              ∙ sym (ap (λ y. and_then (value_by (matcher p) (caller p) n (environment_in here scope.bindings.value.items) y) (resumed (matcher p) (caller p) (all_waiting p here fs))) e
              ∙ ap (λ r. and_then (done_or_stuck r n) (resumed (matcher p) (caller p) (all_waiting p here fs))) t);
          control = f.0;
          frames = s;
          less = omega arith;
        }
    go (Some value) None t f = absurd f
    go None (Some d) t f = absurd f
    go None None t f =
        ap (λ y. and_then (value_by (matcher p) (caller p) n (environment_in here scope.bindings.value.items) y) (resumed (matcher p) (caller p) (all_waiting p here fs))) e
        ∙ ap (λ r. and_then (done_or_stuck r n) (resumed (matcher p) (caller p) (all_waiting p here fs))) t

pub match_waits : (p : ProgramTable) (here : World) (id : ExprId) (scope : Scope) (bs : List (List ℕ × Value)) (i : ℕ) (cs : List (ℕ × ℕ)) →
    scope.bindings.value.items ≡ bs → shape_at p.exprs id.at ≡ match_shape i cs → waiting_of p here (Match id scope) ≡ in_match (environment_in here bs) (clauses_in p cs)
match_waits p here id scope bs i cs s h =
    ap (λ (xs : List (List ℕ × Value)). in_match (environment_in here xs) (clauses_in p (clause_numbers_of (shape_at p.exprs id.at)))) s
    ∙ ap (λ g. in_match (environment_in here bs) (clauses_in p (clause_numbers_of g))) h

pub first_below : (p : ProgramTable) (is : List ℕ) (i : ℕ) → 1 ≤ length is → AllByRecursion (IsRunnable p) is → i ≡ get_or is 0 i → IsRunnable p i
first_below p [] i l b e = absurd (omega arith)
first_below p (j ∷ is) i l b e = subst (IsRunnable p) (sym e) b.0
