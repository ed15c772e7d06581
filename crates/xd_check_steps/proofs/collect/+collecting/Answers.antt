use borrow.Author.Count.{falls}
use Rattle.std.proofs.Common.{◌≡◌, ℕ, ◌+◌, ◌*◌, ◌<◌, arith, List, length, get_or, ap, sym, subst, ◌∙◌}
use Rattle.std.specs.List.{AllByRecursion}
use Rattle.xd_doc.proofs.Lists.{all_push}
use Rattle.xd_syntax.specs.ExpressionTable.{ExprPartsBelow, ExprRow, PatternsBelong, ShapePatternsBelong, call_shape, elem_shape, match_shape, seq_shape}
use Rattle.xd_syntax.specs.Exprs.{clause_numbers, expr_numbers, shape_of}
use Rattle.xd_syntax.specs.Kept.{ProgramTable}
use Rattle.xd_syntax.specs.declared.exprs.Clause.{Clause}
use Rattle.xd_syntax.specs.declared.exprs.ExprId.{ExprId}
use Rattle.xd_patterns.specs.CompiledProgram.{IsLinearPattern}
use Rattle.xd_check_steps.specs.Walkable.{CanBeWalked}
use Rattle.xd_check_steps.proofs.Ceilings.{bodies, bodies_below, ceiling, ceiling_again, ceiling_within}
use Rattle.xd_check_steps.proofs.Walkable.{expr_is, walk_arguments, walk_clauses, walk_content, walk_parts, walk_scrutinee}
use Rattle.xd_check_steps.proofs.Collecting.{body_below, clause_there, part_below, part_there}
use Rattle.xd_check_steps.proofs.collect.+collecting.Goals as goal

pub collect-node-node-requires : goal.collect-node-node-requires
collect-node-node-requires t c =
    let e : c.exprs.result.now ≡ c.args.sound.now.exprs = c.exprs.ensures.exprs ∙ ap (λ (q : ProgramTable). q.exprs) c.program.ensures.program in
    subst (λ (es : List ExprRow). c.args.id.at < length es) (sym e) c.requires.expression.there

pub collect-collect-requires : goal.collect-collect-requires
collect-collect-requires t c =
    let p : ProgramTable = c.args.sound.now in
    let e : c.exprs.result.now ≡ p.exprs = c.exprs.ensures.exprs ∙ ap (λ (q : ProgramTable). q.exprs) c.program.ensures.program in
    let n = c.node-node.result.now in
    let form = sym c.form.ensures ∙ ap shape_of c.in-Elem.is in
    let tree = expr_is p c.exprs.result.now c.args.id n.place n.form (elem_shape c.in-Elem.field-0 c.in-Elem.content.at) e (c.node-node.ensures.expression p.patterns) form in
    let older : c.in-Elem.content.at < c.args.id.at = subst (ExprPartsBelow c.args.id.at) form c.node-node.ensures.parts in
    let fallen : 4 * c.in-Elem.content.at + 3 < t = omega arith in
    (fallen, (walk_content p c.args.id.at c.in-Elem.content.at n.place c.in-Elem.field-0 c.requires.expression tree older, c.requires.ids))

pub collect-collect_each-requires : goal.collect-collect_each-requires
collect-collect_each-requires t c =
    let p : ProgramTable = c.args.sound.now in
    let e : c.exprs.result.now ≡ p.exprs = c.exprs.ensures.exprs ∙ ap (λ (q : ProgramTable). q.exprs) c.program.ensures.program in
    let n = c.node-node.result.now in
    let ids : List ℕ = expr_numbers c.in-Seq.parts.items in
    let form = sym c.form.ensures ∙ ap shape_of c.in-Seq.is in
    let tree = expr_is p c.exprs.result.now c.args.id n.place n.form (seq_shape ids) e (c.node-node.ensures.expression p.patterns) form in
    let older : AllByRecursion (λ i. i < c.args.id.at) ids = subst (ExprPartsBelow c.args.id.at) form c.node-node.ensures.parts in
    let top = ceiling_again c.args.id.at c.deref.result.now c.in-Seq.parts.items c.deref.ensures.value older in
    let fallen : 4 * ceiling (expr_numbers c.deref.result.now) + 1 < t = omega arith in
    (fallen, (subst (λ (ps : List ExprId). AllByRecursion (CanBeWalked p) (expr_numbers ps)) (sym c.deref.ensures.value) (walk_parts p c.args.id.at n.place ids c.requires.expression tree older), c.requires.ids))

pub collect-collect_each-requires-in-Call : goal.collect-collect_each-requires-in-Call
collect-collect_each-requires-in-Call t c =
    let p : ProgramTable = c.args.sound.now in
    let e : c.exprs.result.now ≡ p.exprs = c.exprs.ensures.exprs ∙ ap (λ (q : ProgramTable). q.exprs) c.program.ensures.program in
    let n = c.node-node.result.now in
    let ids : List ℕ = expr_numbers c.in-Call.arguments.items in
    let form = sym c.form.ensures ∙ ap shape_of c.in-Call.is in
    let tree = expr_is p c.exprs.result.now c.args.id n.place n.form (call_shape c.in-Call.field-0 ids) e (c.node-node.ensures.expression p.patterns) form in
    let older : AllByRecursion (λ i. i < c.args.id.at) ids = subst (ExprPartsBelow c.args.id.at) form c.node-node.ensures.parts in
    let top = ceiling_again c.args.id.at c.deref-in-Call.result.now c.in-Call.arguments.items c.deref-in-Call.ensures.value older in
    let fallen : 4 * ceiling (expr_numbers c.deref-in-Call.result.now) + 1 < t = omega arith in
    (fallen, (subst (λ (ps : List ExprId). AllByRecursion (CanBeWalked p) (expr_numbers ps)) (sym c.deref-in-Call.ensures.value) (walk_arguments p c.args.id.at n.place c.in-Call.field-0 ids c.requires.expression tree older), c.requires.ids))

pub collect-collect-requires-in-Match : goal.collect-collect-requires-in-Match
collect-collect-requires-in-Match t c =
    let p : ProgramTable = c.args.sound.now in
    let e : c.exprs.result.now ≡ p.exprs = c.exprs.ensures.exprs ∙ ap (λ (q : ProgramTable). q.exprs) c.program.ensures.program in
    let n = c.node-node.result.now in
    let cs : List (ℕ × ℕ) = clause_numbers c.in-Match.clauses.items in
    let form = sym c.form.ensures ∙ ap shape_of c.in-Match.is in
    let tree = expr_is p c.exprs.result.now c.args.id n.place n.form (match_shape c.in-Match.scrutinee.at cs) e (c.node-node.ensures.expression p.patterns) form in
    let older : (c.in-Match.scrutinee.at < c.args.id.at) × AllByRecursion (λ (k : ℕ × ℕ). k.1 < c.args.id.at) cs = subst (ExprPartsBelow c.args.id.at) form c.node-node.ensures.parts in
    let first : c.in-Match.scrutinee.at < c.args.id.at = older.0 in
    let fallen : 4 * c.in-Match.scrutinee.at + 3 < t = omega arith in
    (fallen, (walk_scrutinee p c.args.id.at c.in-Match.scrutinee.at n.place cs c.requires.expression tree first, c.requires.ids))

pub collect-collect_clauses-requires : goal.collect-collect_clauses-requires
collect-collect_clauses-requires t c =
    let p : ProgramTable = c.args.sound.now in
    let e : c.exprs.result.now ≡ p.exprs = c.exprs.ensures.exprs ∙ ap (λ (q : ProgramTable). q.exprs) c.program.ensures.program in
    let n = c.node-node.result.now in
    let cs : List (ℕ × ℕ) = clause_numbers c.deref-in-Match.result.now in
    let m : ℕ = length p.patterns in
    let form = sym c.form.ensures ∙ ap shape_of c.in-Match.is ∙ ap (λ (ks : List Clause). match_shape c.in-Match.scrutinee.at (clause_numbers ks)) (sym c.deref-in-Match.ensures.value) in
    let tree = expr_is p c.exprs.result.now c.args.id n.place n.form (match_shape c.in-Match.scrutinee.at cs) e (c.node-node.ensures.expression p.patterns) form in
    let older : (c.in-Match.scrutinee.at < c.args.id.at) × AllByRecursion (λ (k : ℕ × ℕ). k.1 < c.args.id.at) cs = subst (ExprPartsBelow c.args.id.at) form c.node-node.ensures.parts in
    let stands : PatternsBelong m c.exprs.result.now = subst (λ (q : ProgramTable). PatternsBelong (length q.patterns) c.exprs.result.now) c.program.ensures.program
    (subst (PatternsBelong (length c.program.result.now.patterns)) (sym c.exprs.ensures.exprs) c.exprs.ensures.stands.clauses) in
    let patterns : AllByRecursion (λ (k : ℕ × ℕ). k.0 < m) cs = subst (ShapePatternsBelong m) form (c.node-node.ensures.clauses m stands) in
    let top = ceiling_within c.args.id.at (bodies cs) (bodies_below c.args.id.at cs older.1) in
    let fallen : 4 * ceiling (bodies cs) + 1 < t = omega arith in
    (fallen, (walk_clauses p c.args.id.at c.in-Match.scrutinee.at n.place cs c.requires.expression tree patterns older.1, c.in_ok-collect-in-Match.ensures))

pub collect_each-collect-requires : goal.collect_each-collect-requires
collect_each-collect-requires t c =
    let p : ProgramTable = c.args.sound.now in
    let n : ℕ = c.loop-part.part-index in
    let id : ExprId = get_or c.args.parts.now n (record { at = 0 }) in
    let top = part_below c.args.parts.now n (record { at = 0 }) c.loop-part-test.true in
    let fallen : 4 * id.at + 3 < t = omega arith in
    (fallen, (part_there p c.args.parts.now n (record { at = 0 }) c.requires.parts c.loop-part-test.true, c.loop-part.invariant))

pub collect_clauses-collect-requires : goal.collect_clauses-collect-requires
collect_clauses-collect-requires t c =
    let p : ProgramTable = c.args.sound.now in
    let n : ℕ = c.loop-clause.clause-index in
    let none : Clause = record { pattern = record { at = 0 }; body = record { at = 0 } } in
    let k : Clause = get_or c.args.clauses.now n none in
    let w = clause_there p c.args.clauses.now n none c.requires.clauses c.loop-clause-test.true in
    let top = body_below c.args.clauses.now n none c.loop-clause-test.true in
    let fallen : 4 * (k.body).at + 3 < t = omega arith in (
      fallen,
      (
        w.body,
        subst (AllByRecursion (IsLinearPattern p.patterns)) (sym c.in_ok-push.ensures.items)
            (all_push (IsLinearPattern p.patterns) c.loop-clause.ids.items k.pattern c.loop-clause.invariant (record { there = w.there; linear = w.linear })),
      ),
    )

pub collect_each-loop-part-smaller : goal.collect_each-loop-part-smaller
collect_each-loop-part-smaller t c = falls (length c.args.parts.now) c.loop-part.part-index c.loop-part-test.true

pub collect_clauses-loop-clause-smaller : goal.collect_clauses-loop-clause-smaller
collect_clauses-loop-clause-smaller t c = falls (length c.args.clauses.now) c.loop-clause.clause-index c.loop-clause-test.true
