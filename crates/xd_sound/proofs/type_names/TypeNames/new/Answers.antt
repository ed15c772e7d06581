use Rattle.std.proofs.Common.{◌≡◌, ℕ, ◌+◌, ◌-◌, ◌<◌, arith, cond, List, length, get_or, drop, Option, Some, ap, sym, ◌∙◌}
use Rattle.std.specs.BTreeMap.{get, is_at}
use Rattle.std.specs.Ordering.{nat_cmp}
use Rattle.std.specs.Cmp.Lexicographic.{slice_cmp}
use Rattle.std.specs.Str.{bytes_eq}
use Rattle.std.specs.Map.{lookup}
use Rattle.std.proofs.lemmas.List.{drop_all}
use Rattle.std.proofs.lemmas.Map.Text.{is_eq-slice_cmp}
use Rattle.xd_sound.specs.TypeNames.{first_from}
use Rattle.xd_sound.proofs.NameLemmas.{first_front}
use Rattle.xd_sound.proofs.type_names.TypeNames.new.Goals as goal

pub loop-number-init : goal.loop-number-init
loop-number-init c w =
    ap (lookup (is_at (slice_cmp nat_cmp w))) c.new-numbers.ensures.empty
    ∙ sym (ap (λ ds. first_from (length c.args.defs.now) ds w) (drop_all (length c.args.defs.now) c.args.defs.now (omega arith)))

pub loop-number-preserved : goal.loop-number-preserved
loop-number-preserved c w =
    let n = c.loop-number.number in
    let t = c.loop-number-test.true in
    let a = c.loop-number.auto.number in
    let ds = c.args.defs.now in
    let d = c.index-defs-number.result in
    let key : List ℕ = c.in_ok-share.field-0 in
    let old : Option ℕ = get (slice_cmp nat_cmp) c.loop-number.numbers w in
    let l : n - 1 < length ds = omega arith in
    let s : n - 1 + 1 ≡ n = omega arith in
    c.in_ok-insert.ensures.updates.0 w
    ∙ ap (λ b. cond b (Some (n - 1)) old) (is_eq-slice_cmp key w)
    ∙ ap (λ x. cond (bytes_eq x w) (Some (n - 1)) old) c.in_ok-share.ensures
    ∙ ap (λ o. cond (bytes_eq (get_or ds (n - 1) d).name w) (Some (n - 1)) o) (c.loop-number.invariant w ∙ ap (λ m. first_from m (drop m ds) w) (sym s))
    ∙ sym (first_front ds (n - 1) w d l)
