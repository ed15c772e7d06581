use Rattle.std.proofs.Common.{◌≡◌, ℕ, ◌+◌, List, ◌∷◌, ◌++◌, drop, ap, sym, ◌∙◌, append_assoc, append-nil}
use Rattle.std.proofs.lemmas.List.{drop_all, drop_more}
use Rattle.xd_syntax.specs.FunctionRow.{FunctionRow}
use Rattle.xd_check_steps.specs.Signed.{types_declared, types_of}
use Rattle.xd_check_steps.proofs.signatures.declared_types.Goals as goal

pub loop-function-preserved : goal.loop-function-preserved
loop-function-preserved c =
    let n : ℕ = c.loop-function.function-index in
    let fs : List FunctionRow = c.args.functions.now in
    let f : FunctionRow = c.function-item.result in
    let rest : List FunctionRow = drop (n + 1) fs in
    let front : drop n fs ≡ f ∷ rest = drop_more fs n f c.loop-function-test.true ∙ ap (λ (x : FunctionRow). x ∷ rest) (sym c.function-item.is) in
    ap (λ ts. ts ++ types_declared rest) c.in_ok-push_declared.ensures
    ∙ append_assoc c.loop-function.types.items (types_of f) (types_declared rest)
    ∙ ap (λ xs. c.loop-function.types.items ++ types_declared xs) (sym front)
    ∙ c.loop-function.invariant

pub returns : goal.returns
returns c =
    sym (append-nil c.loop-function.types.items)
    ∙ ap (λ xs. c.loop-function.types.items ++ types_declared xs) (sym (drop_all c.loop-function.function-index c.args.functions.now c.loop-function-test.false))
    ∙ c.loop-function.invariant
