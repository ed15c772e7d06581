use Rattle.std.proofs.Common.{◌≡◌, ℕ, ◌<◌, List, map, length, Some, ap, sym, subst, ◌∙◌}
use Rattle.std.specs.List.{All, AllByRecursion, slice_get}
use Rattle.std.proofs.lemmas.List.Elements.{All-from_recursion}
use Rattle.xd_doc.specs.Members.{IsOneOf}
use Rattle.xd_syntax.specs.Placed.{PlacedTree}
use Rattle.xd_syntax.specs.PlacedTable.{placed_at}
use Rattle.xd_syntax.specs.Program.{ProgramTree}
use Rattle.xd_syntax.specs.Expression.{Expression, Matched}
use Rattle.xd_syntax.specs.ExpressionTable.{ExprRow, PatternsBelong, ShapePatternsBelong, clauses_of, expression_at, match_shape, shape_expression}
use Rattle.xd_syntax.specs.Exprs.{clause_numbers, shape_of}
use Rattle.xd_syntax.specs.FunctionRow.{FunctionRow}
use Rattle.xd_syntax.specs.Kept.{ProgramTable, function_definition, program_tree}
use Rattle.xd_syntax.specs.declared.exprs.Clause.{Clause}
use Rattle.xd_syntax.specs.declared.exprs.ExprId.{ExprId}
use Rattle.xd_syntax.proofs.Members.{append_right, map_mem}
use Rattle.xd_pattern_runs.specs.Clauses.{patterns_in, patterns_in_clauses}
use Rattle.xd_patterns.specs.CompiledProgram.{IsLinearPattern}
use Rattle.xd_calls_clauses.proofs.ClausePatterns.{AreLinear, first_among, if_ok_then, linear_in_clauses}
use Rattle.xd_calls_clauses.proofs.clauses.clause_patterns.Goals as goal

pub returns-in-Match : goal.returns-in-Match
returns-in-Match c =
    let p : ProgramTable = c.args.sound.now in
    let P : ProgramTree = program_tree p in
    let f : FunctionRow = c.in-Some.function.now in
    let exprs : c.exprs.result.now ≡ p.exprs = c.exprs.ensures.exprs ∙ ap (λ (q : ProgramTable). q.exprs) c.program-program.ensures.program in
    let functions : c.functions.result.now ≡ p.functions = c.functions.ensures.functions ∙ ap (λ (q : ProgramTable). q.functions) c.program-program.ensures.program in
    let first : slice_get p.functions 0 ≡ Some f = subst (λ (fs : List FunctionRow). slice_get fs 0 ≡ Some f) functions (sym c.in-Some.ensures.value) in
    let n = c.node.result.now in
    let cs : List Clause = c.deref.result.now in
    let m : ℕ = length p.patterns in
    let i : ℕ = c.in-Match.field-0.at in
    let t : ℕ → Expression = expression_at p.patterns p.exprs in
    let form : n.form ≡ match_shape i (clause_numbers cs) = sym c.form.ensures ∙ ap shape_of c.in-Match.is ∙ ap (λ (ks : List Clause). match_shape i (clause_numbers ks)) (sym c.deref.ensures.value) in
    let row : expression_at p.patterns p.exprs c.body.result.at ≡ shape_expression (placed_at p.patterns) t n.place n.form
    = subst (λ (rs : List ExprRow). expression_at p.patterns rs c.body.result.at ≡ shape_expression (placed_at p.patterns) (expression_at p.patterns rs) n.place n.form) exprs (c.node.ensures.expression p.patterns) in
    let tree : t f.body.at ≡ Matched n.place (t i) (clauses_of (placed_at p.patterns) t (clause_numbers cs))
    = subst (λ (id : ExprId). t id.at ≡ Matched n.place (t i) (clauses_of (placed_at p.patterns) t (clause_numbers cs))) c.body.ensures (row ∙ ap (shape_expression (placed_at p.patterns) t n.place) form) in
    let stands : PatternsBelong m c.exprs.result.now = subst (λ (q : ProgramTable). PatternsBelong (length q.patterns) c.exprs.result.now) c.program-program.ensures.program
    (subst (PatternsBelong (length c.program-program.result.now.patterns)) (sym c.exprs.ensures.exprs) c.exprs.ensures.stands.clauses) in
    let there : AllByRecursion (λ (k : ℕ × ℕ). k.0 < m) (clause_numbers cs) = subst (ShapePatternsBelong m) form (c.node.ensures.clauses m stands) in
    let mine : IsOneOf (function_definition p f) P.functions = map_mem (function_definition p) f p.functions (first_among f p.functions first) in
    let linear : AreLinear (patterns_in (t f.body.at)) = λ A h. c.programs_are_linear.ensures.clauses P c.program-program.ensures.sound.names (function_definition p f) mine A h in
    let rest : List PlacedTree = patterns_in_clauses (clauses_of (placed_at p.patterns) t (clause_numbers cs)) in
    let inner : AreLinear rest = λ A h. linear A (subst (λ y. IsOneOf A (patterns_in y)) (sym tree) (append_right A (patterns_in (t i)) rest h)) in
    let all : All (IsLinearPattern p.patterns) (map (λ (k : Clause). k.pattern) cs)
    = All-from_recursion (IsLinearPattern p.patterns) (map (λ (k : Clause). k.pattern) cs) (linear_in_clauses p.patterns t cs there inner) in
    if_ok_then (λ ps. ps.items ≡ map (λ (k : Clause). k.pattern) cs) (λ ps. All (IsLinearPattern p.patterns) ps.items) c.patterns_of.result
    (λ ps e. subst (All (IsLinearPattern p.patterns)) (sym e) all) c.patterns_of.ensures
