use Rattle.std.proofs.Common.{ℕ, ◌≤◌, arith, cond, List, length, Option, Some, ap, sym, ◌∙◌}
use Rattle.std.specs.BTreeMap.{get}
use Rattle.std.specs.Ordering.{nat_cmp}
use Rattle.std.specs.Cmp.Lexicographic.{slice_cmp}
use Rattle.std.specs.Str.{bytes_eq}
use Rattle.std.proofs.lemmas.Map.Text.{is_eq-slice_cmp}
use Rattle.xd_syntax.specs.FunctionRow.{FunctionRow}
use Rattle.xd_syntax.specs.declared.program.Param.{Param}
use Rattle.xd_names.specs.Knows.{arity_of}
use Rattle.xd_names.proofs.NameLemmas.{drop_back}
use Rattle.xd_names.proofs.arities.arities.Goals as goal

pub loop-number-preserved : goal.loop-number-preserved
loop-number-preserved c w =
    let f : FunctionRow = c.index-functions-number.result in
    let n : ℕ = c.loop-number.number in
    let key : List ℕ = c.in_ok-share.field-0 in
    let old : Option ℕ = get (slice_cmp nat_cmp) c.loop-number.arities w in
    let within : n ≤ length c.args.functions.now = omega arith in
    c.in_ok-insert.ensures.updates.0 w
    ∙ ap (λ b. cond b (Some (length c.params.result.now)) old) (is_eq-slice_cmp key w)
    ∙ ap (λ v. cond (bytes_eq v w) (Some (length c.params.result.now)) old) (c.in_ok-share.ensures ∙ c.name.ensures)
    ∙ ap (λ (ps : List Param). cond (bytes_eq f.name w) (Some (length ps)) old) c.params.ensures.params
    ∙ ap (λ o. cond (bytes_eq f.name w) (Some (length f.params)) o) (c.loop-number.invariant w)
    ∙ ap (λ fs. arity_of fs w) (sym (drop_back c.args.functions.now n f c.loop-number-test.true within c.index-functions-number.is))
