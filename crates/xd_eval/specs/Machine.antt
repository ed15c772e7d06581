-- The state of an evaluation, and what it means.
use Rattle.std.specs.Prelude.{suc, ◌≡◌, ℕ, ◌+◌, ◌*◌, ◌<◌, ◌≤◌, List, [], ◌∷◌, ◌++◌, map, take, drop, length, Option, Some, None, reverse, cond, slice_index_or}
use Rattle.std.specs.List.{AllByRecursion}
use Rattle.std.specs.Str.{bytes_eq}
use Rattle.xd_base.specs.declared.Place.{Place}
use Rattle.xd_doc.specs.Document.{Document}
use Rattle.xd_doc.specs.Stored.{document_at}
use Rattle.xd_doc.specs.StoredSeq.{BelongsTo}
use Rattle.xd_doc.specs.declared.store.Seq.{Seq}
use Rattle.xd_doc.specs.Members.{IsOneOf}
use Rattle.xd_syntax.specs.Placed.{PlacedTree, unplaced}
use Rattle.xd_syntax.specs.PlacedTable.{placed_at}
use Rattle.xd_pattern_runs.specs.Linear.{IsLinear}
use Rattle.xd_pattern_runs.specs.Clauses.{patterns_in}
use Rattle.xd_syntax.specs.Expression.{Expression, Clauses}
use Rattle.xd_syntax.specs.ExpressionTable.{ExprShape, elem_shape, seq_shape, call_shape, match_shape, shape_expression, expression_at, shape_at, ExprCanFollow, ShapePatternsBelong, clauses_of}
use Rattle.xd_syntax.specs.Program.{FunctionDefinition}
use Rattle.xd_syntax.specs.Kept.{ProgramTable, program_tree}
use Rattle.xd_meaning.specs.Meaning.{Outcome, Environment, Done, Spent, Stuck, and_then, value_by, chosen_by, call_within}
use Rattle.xd_syntax.specs.declared.exprs.Clause.{Clause}
use Rattle.xd_syntax.specs.declared.exprs.ExprId.{ExprId}
use Rattle.xd_syntax.specs.declared.program.Param.{Param}
pub use Rattle.xd_eval.specs.Matches.{matcher, AreBindings}
pub use Rattle.xd_eval.specs.Values.{World, value_at, value_of, Stands, world}
use Rattle.xd_eval.specs.Functions.{row_of}
use Rattle.xd_syntax.specs.Words.{main_word}
use Rattle.xd_eval.specs.Waiting.{Waiting, in_element, in_sequence, in_call, in_match, Caller, resumed, steps, clause_steps, all_steps}
use Rattle.xd_eval.specs.declared.joins.Value.{Value}
use Rattle.xd_eval.specs.declared.frame.Parts.{Parts}
use Rattle.xd_eval.specs.declared.frame.Scope.{Scope}
use Rattle.xd_eval.specs.declared.frame.Frame.{Frame}
use Rattle.xd_eval.specs.declared.frame.Frame.TheVariants.{Element, Sequence, Call, Match}
use Rattle.xd_eval.specs.declared.frame.Control.{Control}
use Rattle.xd_eval.specs.declared.frame.Control.TheVariants.{Evaluate, Give}
use Rattle.xd_eval.specs.declared.frame.Step.{Step}
use Rattle.xd_eval.specs.declared.frame.Step.TheVariants as step
use Rattle.xd_eval.specs.declared.frame.Ending.{Ending}
use Rattle.xd_eval.specs.declared.frame.Ending.TheVariants as ending

-- what names have, where this is what they are bound to
abbrev pub environment_in : World → List (List ℕ × Value) → Environment
environment_in w bs = map (λ b. (b.0, value_at w b.1)) bs

-- what the names of a scope have stands for a document
abbrev pub ScopeStands : World → List (List ℕ × Value) → Type 0
ScopeStands w bs = AllByRecursion (λ (b : List ℕ × Value). Stands w b.1) bs

-- the numbers of the parts of a sequence or of a call
abbrev pub parts_of : ExprShape → List ℕ
parts_of (seq_shape is) = is
parts_of (call_shape f is) = is
parts_of _ = []

abbrev pub function_named : ExprShape → List ℕ
function_named (call_shape f is) = f
function_named _ = []

abbrev pub clause_numbers_of : ExprShape → List (ℕ × ℕ)
clause_numbers_of (match_shape i cs) = cs
clause_numbers_of _ = []

abbrev pub expression_in : ProgramTable → ℕ → Expression
expression_in p i = expression_at p.patterns p.exprs i

-- each way of each of these patterns binds each of its variables, and binds it once
abbrev pub AreLinear : List PlacedTree → Type 0
AreLinear As = (A : PlacedTree) → IsOneOf A As → IsLinear (unplaced A)

-- the expression is there, and the patterns of all clauses in it are linear
pub record IsRunnable (p : ProgramTable) (i : ℕ) : Type 0 where
  pub there : i < length p.exprs
  pub linear : AreLinear (patterns_in (expression_in p i))

-- the pattern is there, and linear
pub record IsOfClause (p : ProgramTable) (i : ℕ) : Type 0 where
  pub there : i < length p.patterns
  pub linear : IsLinear (unplaced (placed_at p.patterns i))

-- the parts of the shape are runnable, and its patterns are linear
abbrev pub PartsAreRunnable : ProgramTable → ExprShape → Type 0
PartsAreRunnable p (elem_shape l i) = IsRunnable p i
PartsAreRunnable p (seq_shape is) = AllByRecursion (IsRunnable p) is
PartsAreRunnable p (call_shape f is) = AllByRecursion (IsRunnable p) is
PartsAreRunnable p (match_shape i cs) = IsRunnable p i × AllByRecursion (λ (c : ℕ × ℕ). IsOfClause p c.0 × IsRunnable p c.1) cs
PartsAreRunnable p _ = Unit {0}

-- the clauses of a match
abbrev pub clauses_in : ProgramTable → List (ℕ × ℕ) → Clauses
clauses_in p cs = clauses_of (placed_at p.patterns) (expression_in p) cs

-- a sequence or a call waits for the value of the part after those that have one
abbrev pub after : ProgramTable → Parts → List Expression
after p parts = map (expression_in p) (drop (length parts.values.items + 1) (parts_of (shape_at p.exprs parts.expr.at)))

abbrev pub before : World → Parts → List Document
before w parts = map (value_at w) parts.values.items

abbrev pub waiting_of : ProgramTable → World → Frame → Waiting
waiting_of p w (Element l) = in_element l
waiting_of p w (Sequence parts) = in_sequence (environment_in w parts.scope.bindings.value.items) (before w parts) (after p parts)
waiting_of p w (Call parts) =
    in_call (environment_in w parts.scope.bindings.value.items) (function_named (shape_at p.exprs parts.expr.at)) (before w parts) (after p parts)
waiting_of p w (Match id scope) = in_match (environment_in w scope.bindings.value.items) (clauses_in p (clause_numbers_of (shape_at p.exprs id.at)))

-- the innermost first
abbrev pub all_waiting : ProgramTable → World → List Frame → List Waiting
all_waiting p w fs = reverse (map (waiting_of p w) fs)

-- the shape is a sequence's, or a call's
abbrev pub IsSequence : ExprShape → Type 0
IsSequence s = s ≡ seq_shape (parts_of s)

abbrev pub IsCall : ExprShape → Type 0
IsCall s = s ≡ call_shape (function_named s) (parts_of s)

abbrev pub IsMatch : ℕ → ExprShape → Type 0
IsMatch i s = s ≡ match_shape i (clause_numbers_of s)

-- a part is waited for, and the values stand for documents
pub record PartsStand (p : ProgramTable) (w : World) (parts : Parts) : Type 0 where
  pub there : IsRunnable p parts.expr.at
  pub waits : length parts.values.items < length (parts_of (shape_at p.exprs parts.expr.at))
  pub values_there : AllByRecursion (Stands w) parts.values.items
  pub scope_stands : ScopeStands w parts.scope.bindings.value.items

-- the numbers of its parts
abbrev pub part_numbers : ProgramTable → Parts → List ℕ
part_numbers p parts = parts_of (shape_at p.exprs parts.expr.at)

-- One more value than before stands in a frame that is else the same.
pub record HasOneMore (old new : Parts) (v : Value) : Type 0 where
  pub expr : new.expr ≡ old.expr
  pub values : new.values.items ≡ old.values.items ++ v ∷ []
  pub scope : new.scope.bindings.value.items ≡ old.scope.bindings.value.items

-- the part that is waited for is the last one
abbrev pub HasNoneLeft : ProgramTable → Parts → Type 0
HasNoneLeft p parts = length (part_numbers p parts) ≤ length parts.values.items + 1

-- the part after the one that is waited for, and the variables for it
pub record IsNextPart (p : ProgramTable) (parts : Parts) (next : ExprId) (scope : Scope) : Type 0 where
  pub waits : length parts.values.items + 1 < length (part_numbers p parts)
  pub part : next.at ≡ slice_index_or (part_numbers p parts) (length parts.values.items + 1) next.at
  pub runnable : IsRunnable p next.at
  pub scope_same : scope.bindings.value.items ≡ parts.scope.bindings.value.items

abbrev pub FrameStands : ProgramTable → World → Frame → Type 0
FrameStands p w (Element l) = Unit {0}
FrameStands p w (Sequence parts) = IsSequence (shape_at p.exprs parts.expr.at) × PartsStand p w parts
FrameStands p w (Call parts) = IsCall (shape_at p.exprs parts.expr.at) × PartsStand p w parts
FrameStands p w (Match id scope) =
    IsRunnable p id.at × ((i : ℕ) × IsMatch i (shape_at p.exprs id.at)) × ScopeStands w scope.bindings.value.items

abbrev pub FramesStand : ProgramTable → World → List Frame → Type 0
FramesStand p w fs = AllByRecursion (FrameStands p w) fs

-- A value is given that the innermost frame waits for; these are the others.
pub record IsAwaited (p : ProgramTable) (w : World) (fs : List Frame) (f : Frame) (v : Value) : Type 0 where
  pub frames : FramesStand p w fs
  pub frame : FrameStands p w f
  pub value : Stands w v

abbrev pub ControlStands : ProgramTable → World → Control → Type 0
ControlStands p w (Evaluate id scope) = IsRunnable p id.at × ScopeStands w scope.bindings.value.items
ControlStands p w (Give v) = Stands w v

abbrev pub caller : ProgramTable → Caller
caller p n f ds = call_within (matcher p) (program_tree p) n n f ds

-- what comes of this state, with so many calls left
abbrev pub outcome : ProgramTable → World → List Frame → Control → ℕ → Outcome Document
outcome p w fs (Evaluate id scope) n =
    and_then (value_by (matcher p) (caller p) n (environment_in w scope.bindings.value.items) (expression_in p id.at)) (resumed (matcher p) (caller p) (all_waiting p w fs))
outcome p w fs (Give v) n = resumed (matcher p) (caller p) (all_waiting p w fs) (value_at w v) n

abbrev pub control_steps : ProgramTable → Control → ℕ
control_steps p (Evaluate id scope) = steps (expression_in p id.at)
control_steps p (Give v) = 0

abbrev pub most_steps : List FunctionDefinition → ℕ
most_steps [] = 0
most_steps (f ∷ fs) = steps f.body + most_steps fs

-- how many steps are left at most
abbrev pub steps_left : ProgramTable → World → List Frame → Control → ℕ → ℕ
steps_left p w fs c n = n * (most_steps (program_tree p).functions + 1) + (control_steps p c + all_steps (all_waiting p w fs))

-- A state leads to another one: the same comes of it, and fewer steps are left.
pub record Leads (p : ProgramTable) (old : World) (fs : List Frame) (c : Control) (n : ℕ) (new : World) (gs : List Frame) (m : ℕ) (d : Control) : Type 0 where
  pub same : outcome p new gs d m ≡ outcome p old fs c n
  pub control : ControlStands p new d
  pub frames : FramesStand p new gs
  pub less : steps_left p new gs d m < steps_left p old fs c n

abbrev pub IsStep : (p : ProgramTable) (old : World) (fs : List Frame) (c : Control) (n : ℕ) (new : World) (gs : List Frame) (m : ℕ) → Step → Type 0
IsStep p old fs c n new gs m (step.Next d) = Leads p old fs c n new gs m d
IsStep p old fs c n new gs m (step.Ended v) = Stands new v × (outcome p old fs c n ≡ Done (value_at new v) m)
IsStep p old fs c n new gs m step.Spent = outcome p old fs c n ≡ Spent
IsStep p old fs c n new gs m step.Stuck = outcome p old fs c n ≡ Stuck

-- what the newest variable of a name has
abbrev pub found_in : List (List ℕ × Value) → List ℕ → Option Value
found_in [] x = None
found_in (b ∷ bs) x = cond (bytes_eq b.0 x) (Some b.1) (found_in bs x)

abbrev pub given : Option Value → Step
given (Some v) = step.Next (Give v)
given None = step.Stuck

-- what was found stands for what was looked up
abbrev pub IsFound : World → Option Value → Option Document → Type 0
IsFound w (Some v) (Some d) = Stands w v × (value_at w v ≡ d)
IsFound w None None = Unit {0}
IsFound w (Some v) None = ⊥
IsFound w None (Some d) = ⊥

-- the expression with this number is of this shape
pub record IsShapeAt (p : ProgramTable) (i : ℕ) (f : ExprShape) : Type 0 where
  pub place : Place
  pub expression : expression_in p i ≡ shape_expression (placed_at p.patterns) (expression_in p) place f
  pub shape : shape_at p.exprs i ≡ f
  pub parts : PartsAreRunnable p f
  pub merged : ExprCanFollow (take i p.exprs) f
  pub patterns : ShapePatternsBelong (length p.patterns) f

-- parameters and their documents, in order
abbrev pub bound_values : List Param → List Value → List (List ℕ × Value)
bound_values [] vs = []
bound_values (q ∷ qs) [] = []
bound_values (q ∷ qs) (v ∷ vs) = (q.name, v) ∷ bound_values qs vs

-- what a match binds, as values
abbrev pub as_values : List (List ℕ × Seq) → List (List ℕ × Value)
as_values bs = map (λ (b : List ℕ × Seq). (b.0, value_of b.1)) bs

-- the patterns and the bodies of these clauses are there
abbrev pub ClausesStand : ProgramTable → List Clause → Type 0
ClausesStand p cs = AllByRecursion (λ (c : Clause). IsOfClause p c.pattern.at × IsRunnable p c.body.at) cs

-- The body of the first clause that takes the document is next, where the clauses' scope is
-- outside; or no clause takes it.
pub record IsBody (p : ProgramTable) (old new : World) (cs : List (ℕ × ℕ)) (bs : List (List ℕ × Value)) (d : Document) (id : ExprId) (scope : Scope) : Type 0 where
  pub same : (n : ℕ) → value_by (matcher p) (caller p) n (environment_in new scope.bindings.value.items) (expression_in p id.at)
      ≡ chosen_by (matcher p) (caller p) n (environment_in old bs) d (clauses_in p cs)
  pub there : IsRunnable p id.at
  pub stands : ScopeStands new scope.bindings.value.items
  pub less : steps (expression_in p id.at) ≤ clause_steps (clauses_in p cs)

abbrev pub IsChosen : (p : ProgramTable) (old new : World) (cs : List (ℕ × ℕ)) (bs : List (List ℕ × Value)) (d : Document) → Step → Type 0
IsChosen p old new cs bs d (step.Next (Evaluate id scope)) = IsBody p old new cs bs d id scope
IsChosen p old new cs bs d (step.Next (Give v)) = ⊥
IsChosen p old new cs bs d (step.Ended v) = ⊥
IsChosen p old new cs bs d step.Spent = ⊥
IsChosen p old new cs bs d step.Stuck = (n : ℕ) → chosen_by (matcher p) (caller p) n (environment_in old bs) d (clauses_in p cs) ≡ Stuck

-- how an evaluation ends, and what comes of its state
abbrev pub IsEnding : List Document → Outcome Document → Ending → Type 0
IsEnding ds o (ending.Value seq left) = BelongsTo ds seq × (o ≡ Done (document_at ds seq) left)
IsEnding ds o ending.Spent = o ≡ Spent
IsEnding ds o ending.Stuck = o ≡ Stuck

-- the state that a call of `main` begins with, if there is one; nothing is joined yet
abbrev pub IsStart : ProgramTable → List Document → Seq → Option Control → Type 0
IsStart p ds input None = row_of p.functions main_word ≡ None
IsStart p ds input (Some c) = ControlStands p (world ds []) c × ((n : ℕ) → outcome p (world ds []) [] c n ≡ caller p (suc n) main_word (document_at ds input ∷ []))
