use Rattle.std.proofs.Common.{◌≡◌, ℕ, ◌+◌, ◌-◌, ◌<◌, arith, cond, List, length, get_or, drop, Option, Some, ap, sym, ◌∙◌}
use Rattle.std.specs.BTreeMap.{get, is_at}
use Rattle.std.specs.Ordering.{nat_cmp}
use Rattle.std.specs.Cmp.Lexicographic.{slice_cmp}
use Rattle.std.specs.Str.{bytes_eq}
use Rattle.std.specs.Map.{lookup}
use Rattle.std.proofs.lemmas.List.{drop_all}
use Rattle.std.proofs.lemmas.Map.Text.{is_eq-slice_cmp}
use Rattle.xd_syntax.specs.FunctionRow.{FunctionRow}
use Rattle.xd_check_steps.specs.Signed.{number_from}
use Rattle.xd_check_steps.proofs.FunctionRowLemmas.{first_front}
use Rattle.xd_check_steps.proofs.signatures.numbers.Goals as goal

pub loop-number-init : goal.loop-number-init
loop-number-init c w =
    ap (lookup (is_at (slice_cmp nat_cmp w))) c.new-numbers.ensures.empty
    ∙ sym (ap (λ fs. number_from (length c.args.functions.now) fs w) (drop_all (length c.args.functions.now) c.args.functions.now (omega arith)))

pub loop-number-preserved : goal.loop-number-preserved
loop-number-preserved c w =
    let n = c.loop-number.number in
    let t = c.loop-number-test.true in
    let a = c.loop-number.auto.number in
    let fs = c.args.functions.now in
    let f = c.index-functions-number.result in
    let key : List ℕ = c.in_ok-share.field-0 in
    let old : Option ℕ = get (slice_cmp nat_cmp) c.loop-number.numbers w in
    let l : n - 1 < length fs = omega arith in
    let s : n - 1 + 1 ≡ n = omega arith in
    c.in_ok-insert.ensures.updates.0 w
    ∙ ap (λ b. cond b (Some (n - 1)) old) (is_eq-slice_cmp key w)
    ∙ ap (λ x. cond (bytes_eq x w) (Some (n - 1)) old) (c.in_ok-share.ensures ∙ c.name.ensures ∙ ap (λ (g : FunctionRow). g.name) c.index-functions-number.is)
    ∙ ap (λ o. cond (bytes_eq (get_or fs (n - 1) f).name w) (Some (n - 1)) o) (c.loop-number.invariant w ∙ ap (λ m. number_from m (drop m fs) w) (sym s))
    ∙ sym (first_front fs (n - 1) w f l)
