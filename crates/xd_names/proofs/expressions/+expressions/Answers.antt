use Rattle.std.proofs.Common.{◌≡◌, ℕ, ◌<◌, ◌≤◌, ◌+◌, ◌*◌, arith, rules, max, List, ◌++◌, map, flat_map, length, vec_len, take, drop, get_or, ap, sym, subst, ◌∙◌, append_assoc}
use Rattle.std.specs.List.{AllByRecursion}
use Rattle.std.proofs.lemmas.List.{length-map}
use Rattle.xd_base.specs.declared.Place.{Place}
use Rattle.xd_doc.proofs.Lists.{take_front, all_below}
use Rattle.xd_syntax.specs.Placed.{PlacedTree, variables}
use Rattle.xd_syntax.specs.PlacedTable.{placed_at}
use Rattle.xd_syntax.specs.Expression.{Expression, arguments_of}
use Rattle.xd_syntax.specs.ExpressionTable.{ExprPartsBelow, PatternsBelong, ShapePatternsBelong, expression_at, shape_expression, clauses_of}
use Rattle.xd_syntax.specs.Exprs.{expr_numbers, clause_numbers, shape_of, expression}
use Rattle.xd_syntax.specs.Program.{ProgramTree, function_of}
use Rattle.xd_syntax.specs.NameFaults.{known_types, argument_count, call_faults, pattern_faults, expression_faults, clause_faults}
use Rattle.xd_syntax.specs.declared.exprs.ExprId.{ExprId}
use Rattle.xd_syntax.specs.declared.exprs.Clause.{Clause}
use Rattle.xd_syntax.specs.declared.fault.Fault.{Fault}
use Rattle.xd_names.specs.Knows.{whole, wanted_faults}
use Rattle.xd_names.proofs.WordLemmas.{drop_at}
use Rattle.xd_names.proofs.TreeLemmas.{part_step}
use Rattle.xd_names.proofs.NameLemmas.{call_wants}
use Rattle.xd_names.proofs.ExprLemmas.{faults_of_parts, faults_of_arguments, arguments_given, body_faults, ceiling, ceiling_within, bodies, bodies_below, bodies_more}
use Rattle.xd_names.proofs.expressions.+expressions.Goals as goal

pub in_expression-in_parts-requires : goal.in_expression-in_parts-requires
in_expression-in_parts-requires t c =
    let n : ℕ = c.args.id.at in
    let form = sym c.form.ensures ∙ ap shape_of c.in-Seq.is in
    let older : AllByRecursion (λ i. i < n) (expr_numbers c.in-Seq.parts.items) = subst (ExprPartsBelow n) form c.node-node.ensures.parts in
    let here : AllByRecursion (λ i. i < n) (expr_numbers c.deref.result.now) = subst (λ ps. AllByRecursion (λ i. i < n) (expr_numbers ps)) (sym c.deref.ensures.value) older in
    let top = ceiling_within n (expr_numbers c.deref.result.now) here in
    let within : n ≤ length c.args.program.now.exprs = omega arith in
    let falls : 2 * ceiling (expr_numbers c.deref.result.now) < t = omega arith in
    (falls, (c.requires.knows, all_below n (length c.args.program.now.exprs) within (expr_numbers c.deref.result.now) here))

pub in_expression-in_parts-requires-in-Call : goal.in_expression-in_parts-requires-in-Call
in_expression-in_parts-requires-in-Call t c =
    let n : ℕ = c.args.id.at in
    let form = sym c.form.ensures ∙ ap shape_of c.in-Call.is in
    let older : AllByRecursion (λ i. i < n) (expr_numbers c.in-Call.arguments.items) = subst (ExprPartsBelow n) form c.node-node.ensures.parts in
    let here : AllByRecursion (λ i. i < n) (expr_numbers c.deref-in-Call.result.now) = subst (λ ps. AllByRecursion (λ i. i < n) (expr_numbers ps)) (sym c.deref-in-Call.ensures.value) older in
    let top = ceiling_within n (expr_numbers c.deref-in-Call.result.now) here in
    let within : n ≤ length c.args.program.now.exprs = omega arith in
    let falls : 2 * ceiling (expr_numbers c.deref-in-Call.result.now) < t = omega arith in
    (falls, (c.requires.knows, all_below n (length c.args.program.now.exprs) within (expr_numbers c.deref-in-Call.result.now) here))

pub in_expression-in_clauses-requires : goal.in_expression-in_clauses-requires
in_expression-in_clauses-requires t c =
    let n : ℕ = c.args.id.at in
    let m : ℕ = length c.args.program.now.patterns in
    let cs : List (ℕ × ℕ) = clause_numbers c.deref-in-Match.result.now in
    let form = sym c.form.ensures ∙ ap shape_of c.in-Match.is in
    let older : (c.in-Match.scrutinee.at < n) × AllByRecursion (λ (k : ℕ × ℕ). k.1 < n) (clause_numbers c.in-Match.clauses.items) = subst (ExprPartsBelow n) form c.node-node.ensures.parts in
    let here : AllByRecursion (λ (k : ℕ × ℕ). k.1 < n) cs = subst (λ ps. AllByRecursion (λ (k : ℕ × ℕ). k.1 < n) (clause_numbers ps)) (sym c.deref-in-Match.ensures.value) older.1 in
    let belong : PatternsBelong m c.exprs.result.now = subst (PatternsBelong m) (sym c.exprs.ensures.exprs) c.exprs.ensures.stands.clauses in
    let patterns : AllByRecursion (λ (k : ℕ × ℕ). k.0 < m) (clause_numbers c.in-Match.clauses.items) = subst (ShapePatternsBelong m) form (c.node-node.ensures.clauses m belong) in
    let top = ceiling_within n (bodies cs) (bodies_below n cs here) in
    let within : n ≤ length c.args.program.now.exprs = omega arith in
    let falls : 2 * ceiling (bodies cs) < t = omega arith in
    (falls, (c.requires.knows, (subst (λ ps. AllByRecursion (λ (k : ℕ × ℕ). k.0 < m) (clause_numbers ps)) (sym c.deref-in-Match.ensures.value) patterns, bodies_more n (length c.args.program.now.exprs) within cs here)))

pub in_expression-returns-in_ok-in_parts-in-Seq-clause-faults : goal.in_expression-returns-in_ok-in_parts-in-Seq-clause-faults
in_expression-returns-in_ok-in_parts-in-Seq-clause-faults t c =
    let W : ProgramTree = whole c.args.program.now in
    let s : List (List ℕ) = c.args.scope.now in
    let pats = c.args.program.now.patterns in
    let E : ℕ → Expression = expression_at pats c.args.program.now.exprs in
    let F : ℕ → List Fault = λ i. expression_faults W s (E i) in
    let p : Place = c.node-node.result.now.place in
    let form = sym c.form.ensures ∙ ap shape_of c.in-Seq.is in
    let tree = subst (λ es. expression pats es c.args.id ≡ shape_expression (placed_at pats) (expression_at pats es) p c.node-node.result.now.form) c.exprs.ensures.exprs (c.node-node.ensures.expression pats)
    ∙ ap (shape_expression (placed_at pats) E p) form in
    c.in_ok-in_parts-in-Seq.ensures.faults
    ∙ ap (λ fs. c.args.faults.now.items ++ fs)
    (ap (λ ps. flat_map F (expr_numbers ps)) c.deref.ensures.value
    ∙ sym (ap (expression_faults W s) tree ∙ faults_of_parts W s E p (expr_numbers c.in-Seq.parts.items)))

pub in_expression-returns-in_ok-in_parts-in-Call-clause-faults : goal.in_expression-returns-in_ok-in_parts-in-Call-clause-faults
in_expression-returns-in_ok-in_parts-in-Call-clause-faults t c =
    let W : ProgramTree = whole c.args.program.now in
    let s : List (List ℕ) = c.args.scope.now in
    let pats = c.args.program.now.patterns in
    let E : ℕ → Expression = expression_at pats c.args.program.now.exprs in
    let F : ℕ → List Fault = λ i. expression_faults W s (E i) in
    let p : Place = c.node-node.result.now.place in
    let f : List ℕ = c.in-Call.word in
    let ids : List ℕ = expr_numbers c.in-Call.arguments.items in
    let old : List Fault = c.args.faults.now.items in
    let form = sym c.form.ensures ∙ ap shape_of c.in-Call.is in
    let tree = subst (λ es. expression pats es c.args.id ≡ shape_expression (placed_at pats) (expression_at pats es) p c.node-node.result.now.form) c.exprs.ensures.exprs (c.node-node.ensures.expression pats)
    ∙ ap (shape_expression (placed_at pats) E p) form in
    let count : length c.in-Call.arguments.items ≡ argument_count (arguments_of (map E ids)) = sym (arguments_given E ids ∙ length-map c.in-Call.arguments.items (λ (i : ExprId). i.at)) in
    let vec : vec_len c.in-Call.arguments ≡ length c.in-Call.arguments.items = search rules in
    let given : c.len-given.result ≡ argument_count (arguments_of (map E ids)) = c.len-given.ensures ∙ vec ∙ count in
    let parts : List Fault = flat_map F (expr_numbers c.deref-in-Call.result.now) in
    c.in_ok-in_parts-in-Call.ensures.faults
    ∙ ap (λ fs. fs ++ parts) c.in_ok-in_call-in-Call.ensures
    ∙ append_assoc old _ parts
    ∙ ap (λ fs. old ++ fs)
    (ap (λ o. wanted_faults o c.place-in-Call.result f c.len-given.result ++ parts) (c.requires.knows.functions f)
    ∙ ap (λ fs. fs ++ parts) (call_wants (function_of W.functions f) c.place-in-Call.result f c.len-given.result)
    ∙ ap (λ q. call_faults (function_of W.functions f) q f c.len-given.result ++ parts) c.place-in-Call.ensures
    ∙ ap (λ k. call_faults (function_of W.functions f) p f k ++ parts) given
    ∙ ap (λ fs. call_faults (function_of W.functions f) p f (argument_count (arguments_of (map E ids))) ++ fs)
    (ap (λ ps. flat_map F (expr_numbers ps)) c.deref-in-Call.ensures.value ∙ sym (faults_of_arguments W s E ids))
    ∙ sym (ap (expression_faults W s) tree))

pub in_clauses-loop-clause-preserved : goal.in_clauses-loop-clause-preserved
in_clauses-loop-clause-preserved t c =
    let W : ProgramTree = whole c.args.program.now in
    let P : ℕ → PlacedTree = placed_at c.args.program.now.patterns in
    let E : ℕ → Expression = expression_at c.args.program.now.patterns c.args.program.now.exprs in
    let s : List (List ℕ) = c.args.scope.now in
    let i = c.loop-clause.invariant in
    let n : ℕ = c.loop-clause.clause-index in
    let first : Clause = record { pattern = record { at = 0 }; body = record { at = 0 } } in
    let x : Clause = get_or c.args.clauses.now n first in
    let T : PlacedTree = P x.pattern.at in
    let d = drop_at c.args.clauses.now n first c.loop-clause-test.true in
    let rest : List (ℕ × ℕ) = clause_numbers (drop (n + 1) c.args.clauses.now) in
    let cf : List Fault = clause_faults W s (clauses_of P E rest) in
    let f0 : List Fault = c.loop-clause.faults.items in
    let pf : List Fault = pattern_faults (known_types W) T in
    let ef : List Fault = expression_faults W (variables T ++ s) (E x.body.at) in
    let k = c.in_ok-in_clause_pattern.ensures in
    let j = c.in_ok-in_expression.ensures in
    let inner : c.in_clause_pattern.new.scope ≡ s ++ variables T = k.scope ∙ ap (λ xs. xs ++ variables T) i.scope in
    let body : c.in_expression.new.faults.items ≡ (f0 ++ pf) ++ ef
    = j.faults
    ∙ ap (λ fs. fs ++ expression_faults W c.in_clause_pattern.new.scope (E x.body.at)) k.faults
    ∙ ap (λ xs. (f0 ++ pf) ++ expression_faults W xs (E x.body.at)) inner
    ∙ ap (λ fs. (f0 ++ pf) ++ fs) (body_faults W s (variables T) (E x.body.at)) in
    let lower = subst (λ ys. ceiling (bodies (clause_numbers ys)) ≤ ceiling (bodies (clause_numbers c.args.clauses.now))) d i.below in
    record {
      scope = c.truncate.ensures ∙ ap (λ xs. take c.len-before.result xs) (j.scope ∙ inner) ∙ ap (λ m. take m (s ++ variables T)) c.len-before.ensures ∙ take_front s (variables T);
      faults = ap (λ fs. fs ++ cf) (body ∙ append_assoc f0 pf ef) ∙ append_assoc f0 (pf ++ ef) cf
          ∙ ap (λ ys. f0 ++ clause_faults W s (clauses_of P E (clause_numbers ys))) (sym d) ∙ i.faults;
      patterns = (subst (λ ys. AllByRecursion (λ (k : ℕ × ℕ). k.0 < length c.args.program.now.patterns) (clause_numbers ys)) d i.patterns).1;
      exprs = (subst (λ ys. AllByRecursion (λ (k : ℕ × ℕ). k.1 < length c.args.program.now.exprs) (clause_numbers ys)) d i.exprs).1;
      below = omega arith;
    }

pub in_parts-in_expression-requires : goal.in_parts-in_expression-requires
in_parts-in_expression-requires t c =
    let xs = c.args.parts.now in
    let i : ℕ = c.loop-part.part-index in
    let first : ExprId = record { at = 0 } in
    let d = drop_at xs i first c.loop-part-test.true in
    let lower : max ((get_or xs i first).at + 1) (ceiling (expr_numbers (drop (i + 1) xs))) ≤ ceiling (expr_numbers xs) = subst (λ ys. ceiling (expr_numbers ys) ≤ ceiling (expr_numbers xs)) d c.loop-part.invariant.below in
    let falls : 2 * (get_or xs i first).at + 1 < t = omega arith in
    (falls, (c.requires.knows, (subst (λ ys. AllByRecursion (λ j. j < length c.args.program.now.exprs) (expr_numbers ys)) d c.loop-part.invariant.belong).0))

pub in_parts-loop-part-preserved : goal.in_parts-loop-part-preserved
in_parts-loop-part-preserved t c =
    let W : ProgramTree = whole c.args.program.now in
    let E : ℕ → Expression = expression_at c.args.program.now.patterns c.args.program.now.exprs in
    let F : ℕ → List Fault = λ j. expression_faults W c.args.scope.now (E j) in
    let xs = c.args.parts.now in
    let n : ℕ = c.loop-part.part-index in
    let first : ExprId = record { at = 0 } in
    let i = c.loop-part.invariant in
    let d = drop_at xs n first c.loop-part-test.true in
    let k = c.in_ok-in_expression.ensures in
    let lower : max ((get_or xs n first).at + 1) (ceiling (expr_numbers (drop (n + 1) xs))) ≤ ceiling (expr_numbers xs) = subst (λ ys. ceiling (expr_numbers ys) ≤ ceiling (expr_numbers xs)) d i.below in
    record {
      scope = k.scope ∙ i.scope;
      faults = ap (λ fs. fs ++ flat_map F (expr_numbers (drop (n + 1) xs)))
          (k.faults ∙ ap (λ s. c.loop-part.faults.items ++ expression_faults W s (E (get_or xs n first).at)) i.scope)
          ∙ part_step (λ (id : ExprId). id.at) F xs n first c.loop-part.faults.items _ c.loop-part-test.true i.faults;
      belong = (subst (λ ys. AllByRecursion (λ j. j < length c.args.program.now.exprs) (expr_numbers ys)) d i.belong).1;
      below = omega arith;
    }

pub in_clauses-in_clause_pattern-requires-clause-belongs : goal.in_clauses-in_clause_pattern-requires-clause-belongs
in_clauses-in_clause_pattern-requires-clause-belongs t c =
    let first : Clause = record { pattern = record { at = 0 }; body = record { at = 0 } } in
    let d = drop_at c.args.clauses.now c.loop-clause.clause-index first c.loop-clause-test.true in
    (subst (λ ys. AllByRecursion (λ (k : ℕ × ℕ). k.0 < length c.args.program.now.patterns) (clause_numbers ys)) d c.loop-clause.invariant.patterns).0

pub in_clauses-in_expression-requires : goal.in_clauses-in_expression-requires
in_clauses-in_expression-requires t c =
    let xs = c.args.clauses.now in
    let n : ℕ = c.loop-clause.clause-index in
    let first : Clause = record { pattern = record { at = 0 }; body = record { at = 0 } } in
    let i = c.loop-clause.invariant in
    let d = drop_at xs n first c.loop-clause-test.true in
    let lower : max ((get_or xs n first).body.at + 1) (ceiling (bodies (clause_numbers (drop (n + 1) xs)))) ≤ ceiling (bodies (clause_numbers xs)) = subst (λ ys. ceiling (bodies (clause_numbers ys)) ≤ ceiling (bodies (clause_numbers xs))) d i.below in
    let falls : 2 * (get_or xs n first).body.at + 1 < t = omega arith in
    (falls, (c.requires.knows, (subst (λ ys. AllByRecursion (λ (k : ℕ × ℕ). k.1 < length c.args.program.now.exprs) (clause_numbers ys)) d i.exprs).0))
