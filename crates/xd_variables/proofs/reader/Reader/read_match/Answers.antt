use Rattle.std.proofs.Common.{◌≡◌, ℕ, ◌<◌, List, length, take, ap, sym, subst, ◌∙◌}
use Rattle.std.specs.List.{AllByRecursion}
use Rattle.std.proofs.lemmas.Result.{on_ok_weaker}
use Rattle.xd_syntax.specs.Expression.{Clauses, Expression, Matched}
use Rattle.xd_syntax.specs.ExpressionTable.{ExprCanFollow, ExprPartsBelow, PatternsBelong, ShapePatternsBelong, clauses_of, match_shape}
use Rattle.xd_syntax.specs.Exprs.{clause_numbers, shape_of}
use Rattle.xd_syntax.specs.Kept.{ProgramTable}
use Rattle.xd_syntax.specs.PlacedTable.{placed_at}
use Rattle.xd_syntax.specs.declared.exprs.Clause.{Clause}
use Rattle.xd_check_steps.specs.Walkable.{expr_at}
use Rattle.xd_check_steps.proofs.GrowsLemmas.{grows_none}
use Rattle.xd_check_steps.proofs.Walkable.{expr_is, walk_clauses}
use Rattle.xd_variables.specs.Bound.{reading_of}
use Rattle.xd_variables.proofs.MatchLoop.{no_match, read_match}
use Rattle.xd_variables.proofs.reader.Reader.read_match.Goals as goal

pub read_clauses-requires-clause-clauses : goal.read_clauses-requires-clause-clauses
read_clauses-requires-clause-clauses c =
    let p : ProgramTable = c.args.self.now.sound in
    let i : ℕ = (c.args.met.expr).at in
    let e : c.exprs.result.now ≡ p.exprs = c.exprs.ensures.exprs ∙ ap (λ (q : ProgramTable). q.exprs) c.program.ensures.program in
    let n = c.node-node.result.now in
    let cs : List (ℕ × ℕ) = clause_numbers c.deref.result.now in
    let m : ℕ = length p.patterns in
    let form = sym c.form.ensures ∙ ap shape_of c.in-Match.is ∙ ap (λ (ks : List Clause). match_shape c.in-Match.field-0.at (clause_numbers ks)) (sym c.deref.ensures.value) in
    let tree = expr_is p c.exprs.result.now c.args.met.expr n.place n.form (match_shape c.in-Match.field-0.at cs) e (c.node-node.ensures.expression p.patterns) form in
    let older : (c.in-Match.field-0.at < i) × AllByRecursion (λ (k : ℕ × ℕ). k.1 < i) cs = subst (ExprPartsBelow i) form c.node-node.ensures.parts in
    let stands : PatternsBelong m c.exprs.result.now = subst (λ (q : ProgramTable). PatternsBelong (length q.patterns) c.exprs.result.now) c.program.ensures.program
    (subst (PatternsBelong (length c.program.result.now.patterns)) (sym c.exprs.ensures.exprs) c.exprs.ensures.stands.clauses) in
    let patterns : AllByRecursion (λ (k : ℕ × ℕ). k.0 < m) cs = subst (ShapePatternsBelong m) form (c.node-node.ensures.clauses m stands) in
    walk_clauses p i c.in-Match.field-0.at n.place cs c.requires.met.walkable tree patterns older.1

pub returns-in-Match-clause-variables : goal.returns-in-Match-clause-variables
returns-in-Match-clause-variables c =
    let p : ProgramTable = c.args.self.now.sound in
    let e : c.exprs.result.now ≡ p.exprs = c.exprs.ensures.exprs ∙ ap (λ (q : ProgramTable). q.exprs) c.program.ensures.program in
    let n = c.node-node.result.now in
    let cs : List (ℕ × ℕ) = clause_numbers c.deref.result.now in
    let x : Expression = expr_at p c.in-Match.field-0.at in
    let ks : Clauses = clauses_of (placed_at p.patterns) (expr_at p) cs in
    let form = sym c.form.ensures ∙ ap shape_of c.in-Match.is ∙ ap (λ (js : List Clause). match_shape c.in-Match.field-0.at (clause_numbers js)) (sym c.deref.ensures.value) in
    let tree : expr_at p (c.args.met.expr).at ≡ Matched n.place x ks = expr_is p c.exprs.result.now c.args.met.expr n.place n.form (match_shape c.in-Match.field-0.at cs) e (c.node-node.ensures.expression p.patterns) form in
    on_ok_weaker c.read_clauses.result
    (λ h m met. read_match (reading_of c.args.self.now.ways) p c.args.auto.now c.read_clauses.new.auto m c.args.met n.place x ks c.args.found.now.variables.items c.read_clauses.new.found.variables.items met tree
    (λ comes. h m.scope m.scrutinee comes)) c.read_clauses.ensures.variables

pub returns-in_default : goal.returns-in_default
returns-in_default c =
    let p : ProgramTable = c.args.self.now.sound in
    let e : c.exprs.result.now ≡ p.exprs = c.exprs.ensures.exprs ∙ ap (λ (q : ProgramTable). q.exprs) c.program.ensures.program in
    let n = c.node-node.result.now in
    let f = c.form.result.now in
    let older = take (c.args.met.expr).at c.exprs.result.now in
    let follows : ExprCanFollow older (shape_of f) = subst (ExprCanFollow older) (sym c.form.ensures) c.node-node.ensures.merged in
    let tree = expr_is p c.exprs.result.now c.args.met.expr n.place n.form (shape_of f) e (c.node-node.ensures.expression p.patterns) (sym c.form.ensures) in
    record {
      variables = λ m met. absurd (no_match (placed_at p.patterns) (expr_at p) older n.place m.place m.scrutinee m.clauses f follows (sym tree ∙ met.match) c.in_default.not-Match);
      grows = grows_none c.args.auto.now;
      known = c.requires.known;
    }
