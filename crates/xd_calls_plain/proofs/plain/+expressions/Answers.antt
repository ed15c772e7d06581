use Rattle.std.proofs.Common.{ℕ, ◌<◌, arith, length, sym, subst, ap, refl, slice_index_or, ◌∙◌}
use Rattle.std.specs.List.{AllByRecursion}
use Rattle.xd_syntax.specs.ExpressionTable.{ExprPartsBelow, ShapePatternsBelong}
use Rattle.xd_syntax.specs.Exprs.{expr_numbers, clause_numbers, shape_of}
use Rattle.xd_syntax.specs.declared.exprs.ExprId.{ExprId}
use Rattle.xd_syntax.specs.declared.exprs.Clause.{Clause}
use Rattle.xd_calls_programs.proofs.ShownParts.{part_at}
use Rattle.xd_calls_plain.proofs.plain.+expressions.Goals as goal

pub plain_expr-plain_parts-requires : goal.plain_expr-plain_parts-requires
plain_expr-plain_parts-requires t c =
    let n : ℕ = c.args.id.at in
    let form = sym c.form.ensures ∙ ap shape_of c.in-Seq.is in
    let older : AllByRecursion (λ i. i < n) (expr_numbers c.in-Seq.parts.items) = subst (ExprPartsBelow n) form c.node-node.ensures.parts in
    let here : AllByRecursion (λ i. i < n) (expr_numbers c.deref.result.now) = subst (λ ps. AllByRecursion (λ i. i < n) (expr_numbers ps)) (sym c.deref.ensures.value) older in
    (omega arith, (c.requires.belongs, (c.requires.clauses, here)))

pub plain_expr-plain_parts-requires-in-Call : goal.plain_expr-plain_parts-requires-in-Call
plain_expr-plain_parts-requires-in-Call t c =
    let n : ℕ = c.args.id.at in
    let form = sym c.form.ensures ∙ ap shape_of c.in-Call.is in
    let older : AllByRecursion (λ i. i < n) (expr_numbers c.in-Call.arguments.items) = subst (ExprPartsBelow n) form c.node-node.ensures.parts in
    let here : AllByRecursion (λ i. i < n) (expr_numbers c.deref-in-Call.result.now) = subst (λ ps. AllByRecursion (λ i. i < n) (expr_numbers ps)) (sym c.deref-in-Call.ensures.value) older in
    (omega arith, (c.requires.belongs, (c.requires.clauses, here)))

pub plain_expr-plain_clauses-requires : goal.plain_expr-plain_clauses-requires
plain_expr-plain_clauses-requires t c =
    let n : ℕ = c.args.id.at in
    let m : ℕ = length c.args.patterns.now in
    let form = sym c.form.ensures ∙ ap shape_of c.in-Match.is in
    let older = subst (ExprPartsBelow n) form c.node-node.ensures.parts in
    let here = subst (λ ps. AllByRecursion (λ (k : ℕ × ℕ). k.1 < n) (clause_numbers ps)) (sym c.deref-in-Match.ensures.value) older.1 in
    let takes = subst (ShapePatternsBelong m) form (c.node-node.ensures.clauses m c.requires.clauses) in
    (omega arith, (c.requires.belongs, (c.requires.clauses, (subst (λ ps. AllByRecursion (λ (k : ℕ × ℕ). k.0 < m) (clause_numbers ps)) (sym c.deref-in-Match.ensures.value) takes, here))))

pub plain_parts-plain_expr-requires : goal.plain_parts-plain_expr-requires
plain_parts-plain_expr-requires t c =
    let h : (slice_index_or c.args.parts.now c.loop-part.part-index (record { at = 0 })).at < c.args.whole.at =
    part_at (λ (id : ExprId). id.at) (λ i. i < c.args.whole.at) c.args.parts.now c.args.parts.now c.loop-part.part-index _ c.requires.older refl c.loop-part-test.true in
    (omega (arith, h), (omega (arith, h), c.requires.clauses))

pub plain_clauses-plain_tree-requires : goal.plain_clauses-plain_tree-requires
plain_clauses-plain_tree-requires t c =
    part_at (λ (x : Clause). (x.pattern.at, x.body.at)) (λ x. x.0 < length c.args.patterns.now) c.args.clauses.now c.args.clauses.now c.loop-clause.clause-index _ c.requires.takes refl c.loop-clause-test.true

pub plain_clauses-plain_expr-requires : goal.plain_clauses-plain_expr-requires
plain_clauses-plain_expr-requires t c =
    let h : (slice_index_or c.args.clauses.now c.loop-clause.clause-index (record { pattern = record { at = 0 }; body = record { at = 0 } })).body.at < c.args.whole.at =
    part_at (λ (x : Clause). (x.pattern.at, x.body.at)) (λ x. x.1 < c.args.whole.at) c.args.clauses.now c.args.clauses.now c.loop-clause.clause-index _ c.requires.older refl c.loop-clause-test.true in
    (omega (arith, h), (omega (arith, h), c.requires.clauses))
