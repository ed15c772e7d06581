use Rattle.std.proofs.Common.{◌≡◌, ℕ, List, ◌++◌, map, flat_map, ap, ◌∙◌, append_assoc}
use Rattle.std.proofs.lemmas.Result.{on_ok_weaker}
use Rattle.xd_syntax.specs.Table.{Row}
use Rattle.xd_syntax.specs.PlacedTable.{placed_at}
use Rattle.xd_syntax.specs.Expression.{Expression}
use Rattle.xd_syntax.specs.Exprs.{expression}
use Rattle.xd_syntax.specs.Program.{Parameter, ProgramTree}
use Rattle.xd_syntax.specs.FunctionRow.{FunctionRow}
use Rattle.xd_syntax.specs.Kept.{ProgramTable, parameter}
use Rattle.xd_syntax.specs.NameFaults.{known_types, unknown_types, expression_faults}
use Rattle.xd_syntax.specs.declared.types.TypeId.{TypeId}
use Rattle.xd_syntax.specs.declared.exprs.ExprId.{ExprId}
use Rattle.xd_syntax.specs.declared.program.Param.{Param}
use Rattle.xd_syntax.specs.declared.fault.Fault.{Fault}
use Rattle.xd_names.specs.Knows.{whole}
use Rattle.xd_names.proofs.NameLemmas.{unknown-same}
use Rattle.xd_names.proofs.ProgramLemmas.{declared_faults, names_params}
use Rattle.xd_names.proofs.program.in_function.Goals as goal

pub returns : goal.returns
returns c =
    let p : ProgramTable = c.args.program.now in
    let f : FunctionRow = c.args.function.now in
    let W : ProgramTree = whole p in
    let K : List (List ℕ) = c.args.names.now.types in
    let L : List (List ℕ) = known_types W in
    let old : List Fault = c.args.faults.now.items in
    let e : Expression = expression p.patterns p.exprs f.body in
    let names : List (List ℕ) = map (λ (q : Parameter). q.name) (map (parameter p.types) f.params) in
    let a : List Fault = flat_map (λ (q : Parameter). unknown_types L q.declared) (map (parameter p.types) f.params) in
    let b : List Fault = unknown_types L (placed_at p.types f.declared.at) in
    let first : c.in_declared.new.faults.items ≡ old ++ a
    = c.in_ok-in_declared.ensures
    ∙ ap (λ fs. old ++ fs)
    (ap (λ (types : List Row). flat_map (λ (q : Param). unknown_types K (placed_at types q.body.at)) c.params-params.result.now) c.types-types.ensures.types
    ∙ ap (λ (ps : List Param). flat_map (λ (q : Param). unknown_types K (placed_at p.types q.body.at)) ps) c.params-params.ensures.params
    ∙ declared_faults K L c.requires.knows.types p.types f.params) in
    let second : c.in_tree.new.faults.items ≡ (old ++ a) ++ b
    = c.in_ok-in_tree.ensures
    ∙ ap (λ fs. fs ++ unknown_types K (placed_at c.types-types.result.now c.result_type.result.at)) first
    ∙ ap (λ fs. (old ++ a) ++ fs)
    (ap (λ (types : List Row). unknown_types K (placed_at types c.result_type.result.at)) c.types-types.ensures.types
    ∙ ap (λ (id : TypeId). unknown_types K (placed_at p.types id.at)) c.result_type.ensures
    ∙ unknown-same K L (placed_at p.types f.declared.at) c.requires.knows.types) in
    let scope : c.in_ok-scope.scope ≡ names
    = c.in_ok-scope.ensures ∙ ap (λ (ps : List Param). map (λ (q : Param). q.name) ps) c.params-params.ensures.params ∙ names_params p.types f.params in
    on_ok_weaker c.in_expression.result
    (λ h. h
    ∙ ap (λ fs. fs ++ expression_faults W c.in_ok-scope.scope (expression p.patterns p.exprs c.body.result)) second
    ∙ ap (λ xs. ((old ++ a) ++ b) ++ expression_faults W xs (expression p.patterns p.exprs c.body.result)) scope
    ∙ ap (λ (id : ExprId). ((old ++ a) ++ b) ++ expression_faults W names (expression p.patterns p.exprs id)) c.body.ensures
    ∙ ap (λ fs. fs ++ expression_faults W names e) (append_assoc old a b)
    ∙ append_assoc old (a ++ b) (expression_faults W names e))
    c.in_expression.ensures.faults
