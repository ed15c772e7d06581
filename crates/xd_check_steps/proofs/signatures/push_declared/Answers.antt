use Rattle.std.proofs.Common.{ℕ, List, [], ◌∷◌, ◌++◌, map, take, ap, sym, ◌∙◌, append_assoc}
use Rattle.std.proofs.lemmas.List.{map-append, take_all, take_more}
use Rattle.xd_syntax.specs.declared.program.Param.{Param}
use Rattle.xd_syntax.specs.declared.types.TypeId.{TypeId}
use Rattle.xd_check_steps.proofs.signatures.push_declared.Goals as goal

pub loop-param-preserved : goal.loop-param-preserved
loop-param-preserved c =
    let n : ℕ = c.loop-param.param-index in
    let qs : List Param = c.params-param-items.result.now in
    let q : Param = c.param-item.result in
    let body : Param → TypeId = λ (x : Param). x.body in
    let old : List TypeId = c.args.types.now.items in
    c.in_ok-push.ensures.items
    ∙ ap (λ ts. ts ++ q.body ∷ []) c.loop-param.invariant
    ∙ append_assoc old (map body (take n qs)) (q.body ∷ [])
    ∙ ap (λ ts. old ++ ts) (sym (map-append body (take n qs) (q ∷ [])))
    ∙ ap (λ (x : Param). old ++ map body (take n qs ++ x ∷ [])) c.param-item.is
    ∙ ap (λ xs. old ++ map body xs) (sym (take_more qs n q c.loop-param-test.true))

pub returns : goal.returns
returns c =
    let n : ℕ = c.loop-param.param-index in
    let qs : List Param = c.params-param-items.result.now in
    let body : Param → TypeId = λ (x : Param). x.body in
    let old : List TypeId = c.args.types.now.items in
    let f = c.args.function.now in
    c.in_ok-push-2.ensures.items
    ∙ ap (λ ts. ts ++ c.result_type.result ∷ []) (c.loop-param.invariant ∙ ap (λ xs. old ++ map body xs) (take_all n qs c.loop-param-test.false))
    ∙ append_assoc old (map body qs) (c.result_type.result ∷ [])
    ∙ ap (λ (xs : List Param). old ++ (map body xs ++ c.result_type.result ∷ [])) c.params-param-items.ensures.params
    ∙ ap (λ (x : TypeId). old ++ (map body f.params ++ x ∷ [])) c.result_type.ensures
