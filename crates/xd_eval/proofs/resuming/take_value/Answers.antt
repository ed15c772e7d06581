use Rattle.std.proofs.Common.{◌≡◌, ◌+◌, ◌<◌, arith, length, get_or, ap, sym, subst, ◌∙◌, length-append}
use Rattle.std.specs.List.{AllByRecursion}
use Rattle.xd_syntax.specs.Exprs.{expr_numbers}
use Rattle.xd_syntax.proofs.ExprTrees.{count_numbers}
use Rattle.xd_eval.specs.Machine.{part_numbers}
use Rattle.xd_eval.proofs.Resumed.{part_below}
use Rattle.xd_eval.proofs.resuming.take_value.Goals as goal

pub returns-clause-next : goal.returns-clause-next
returns-clause-next c =
    let p = c.args.sound.now in
    let parts = c.args.parts.now in
    let all = c.all_parts-all.result.now in
    let i = c.part_at.result.at in
    let k = length parts.values.items + 1 in
    let numbers : expr_numbers all ≡ part_numbers p parts = c.all_parts-all.ensures.numbers in
    let count : length (part_numbers p parts) ≡ length all = sym (ap length numbers) ∙ count_numbers all in
    let done : length c.as_slice-done.result.now ≡ k = ap length c.as_slice-done.ensures.value ∙ ap length c.in_ok-keep_value.ensures ∙ length-append parts.values.items _ in
    let waits : k < length (part_numbers p parts) = omega (arith, c.if-done-all.false) in
    let part : i ≡ get_or (part_numbers p parts) k i = c.part_at.ensures i ∙ ap (λ n. get_or (expr_numbers all) n i) done ∙ ap (λ xs. get_or xs k i) numbers in
    record {
      waits = waits;
      part = part;
      runnable = part_below p (part_numbers p parts) k i (subst (AllByRecursion _) numbers c.all_parts-all.ensures.below) waits part;
      scope_same = c.in_ok-scope.ensures;
    }
