use Rattle.std.proofs.Common.{◌<◌, arith, length, sym, subst, slice_index_or}
use Rattle.xd_syntax.specs.ExpressionTable.{ExprPartsBelow, ShapePatternsBelong, seq_shape, call_shape, match_shape}
use Rattle.xd_syntax.specs.Exprs.{expr_numbers, clause_numbers}
use Rattle.xd_syntax.specs.declared.exprs.ExprId.{ExprId}
use Rattle.xd_syntax.specs.declared.exprs.Clause.{Clause}
use Rattle.xd_calls_programs.proofs.ShownParts.{part_at}
use Rattle.xd_calls_programs.proofs.trees.+show_expr.Goals as goal

pub show_expr-requires-in-loop-part : goal.show_expr-requires-in-loop-part
show_expr-requires-in-loop-part t c =
    let a : ExprPartsBelow c.args.id.at (seq_shape (expr_numbers c.in-Seq.parts.items)) = subst (ExprPartsBelow c.args.id.at) (sym (rw c.in-Seq.is at c.form.ensures)) c.node-node.ensures.parts in
    let h : (slice_index_or c.deref-part-items.result.now c.loop-part.part-index (record { at = 0 })).at < c.args.id.at =
    part_at (λ (id : ExprId). id.at) (λ i. i < c.args.id.at) c.in-Seq.parts.items c.deref-part-items.result.now c.loop-part.part-index _ a c.deref-part-items.ensures.value c.loop-part-test.true in
    (omega (arith, h), (omega (arith, h), c.requires.clauses))

pub show_expr-requires-in-loop-argument : goal.show_expr-requires-in-loop-argument
show_expr-requires-in-loop-argument t c =
    let a : ExprPartsBelow c.args.id.at (call_shape c.in-Call.function (expr_numbers c.in-Call.arguments.items)) = subst (ExprPartsBelow c.args.id.at) (sym (rw c.in-Call.is at c.form.ensures)) c.node-node.ensures.parts in
    let h : (slice_index_or c.deref-argument-items.result.now c.loop-argument.argument-index (record { at = 0 })).at < c.args.id.at =
    part_at (λ (id : ExprId). id.at) (λ i. i < c.args.id.at) c.in-Call.arguments.items c.deref-argument-items.result.now c.loop-argument.argument-index _ a c.deref-argument-items.ensures.value c.loop-argument-test.true in
    (omega (arith, h), (omega (arith, h), c.requires.clauses))

pub show_node-requires : goal.show_node-requires
show_node-requires t c =
    let a : ShapePatternsBelong (length c.args.patterns.now) (match_shape c.in-Match.scrutinee.at (clause_numbers c.in-Match.clauses.items)) =
    subst (ShapePatternsBelong (length c.args.patterns.now)) (sym (rw c.in-Match.is at c.form.ensures)) (c.node-node.ensures.clauses (length c.args.patterns.now) c.requires.clauses) in
    part_at (λ (x : Clause). (x.pattern.at, x.body.at)) (λ x. x.0 < length c.args.patterns.now) c.in-Match.clauses.items c.deref-clause-items.result.now c.loop-clause.clause-index _ a c.deref-clause-items.ensures.value c.loop-clause-test.true

pub show_expr-requires-in-loop-clause : goal.show_expr-requires-in-loop-clause
show_expr-requires-in-loop-clause t c =
    let a : ExprPartsBelow c.args.id.at (match_shape c.in-Match.scrutinee.at (clause_numbers c.in-Match.clauses.items)) = subst (ExprPartsBelow c.args.id.at) (sym (rw c.in-Match.is at c.form.ensures)) c.node-node.ensures.parts in
    let h : (slice_index_or c.deref-clause-items.result.now c.loop-clause.clause-index (record { pattern = record { at = 0 }; body = record { at = 0 } })).body.at < c.args.id.at =
    part_at (λ (x : Clause). (x.pattern.at, x.body.at)) (λ x. x.1 < c.args.id.at) c.in-Match.clauses.items c.deref-clause-items.result.now c.loop-clause.clause-index _ a.1 c.deref-clause-items.ensures.value c.loop-clause-test.true in
    (omega (arith, h), (omega (arith, h), c.requires.clauses))
