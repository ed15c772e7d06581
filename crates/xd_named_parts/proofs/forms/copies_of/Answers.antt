use Rattle.std.proofs.Common.{◌≡◌, get_or, Some, sym, subst, take, ◌+◌}
use Rattle.xd_same_types.proofs.Ids.{got}
use Rattle.xd_named_parts.specs.Copies.{AllCopied, copy_in}
use Rattle.xd_named_parts.proofs.CopyLaws.{copied_step}
use Rattle.xd_named_parts.proofs.forms.copies_of.Goals as goal

pub loop-part-preserved : goal.loop-part-preserved
loop-part-preserved c =
    let table = c.args.table.now in
    let parts = c.args.parts.now in
    let k = c.loop-part.part-index in
    let p = get_or parts k (record { at = 0 }) in
    let e : copy_in table p.at ≡ Some c.in-Some.id = cc in
    subst (AllCopied table (take (k + 1) parts)) (sym c.in_ok-push-in-Some.ensures.items)
    (copied_step table parts c.loop-part.made.items k p c.in-Some.id c.loop-part-test.true (got parts k (record { at = 0 }) c.loop-part-test.true) c.loop-part.invariant e)
