use Rattle.std.proofs.Common.{◌≡◌, ◌+◌, ◌<◌, arith, length, ap, sym, subst, ◌∙◌}
use Rattle.std.proofs.lemmas.List.{length_push}
use Rattle.xd_syntax.specs.Types.{form_of}
use Rattle.xd_sound.specs.Emptiness.{AreEmptySoFar, IsRead, form_marked}
use Rattle.xd_syntax.specs.Nodes.{form_at}
use Rattle.xd_syntax.specs.declared.types.TypeId.{TypeId}
use Rattle.xd_sound.proofs.EmptyLemmas.{form_read, read_at}
use Rattle.xd_sound.proofs.KnownLaws.{so_far_more}
use Rattle.xd_sound.proofs.empty.mark_more.Goals as goal

pub loop-at-preserved : goal.loop-at-preserved
loop-at-preserved c =
    let ts = c.args.types.now in
    let ds = c.args.defs.now in
    let marks = c.loop-at.marks.items in
    let b = c.form_is_marked-mark.result in
    let at = c.loop-at.at in
    let i = c.loop-at.invariant in
    let t = c.loop-at-test.true in
    let n = c.len-at-end.ensures in
    let m = i.count in
    let h : length marks < length ts = omega arith in
    let k : c.of.result.at ≡ length marks = ap (λ (x : TypeId). x.at) c.of.ensures ∙ sym m in
    let f : form_of c.form.result.now ≡ form_at ts (length marks) = form_read ts c.of.result.at (length marks) c.node.result.now (form_of c.form.result.now) k h c.node.ensures.row c.form.ensures in
    let q : b ≡ form_marked marks ds (form_at ts (length marks)) = c.form_is_marked-mark.ensures ∙ ap (λ xs. form_marked xs ds (form_of c.form.result.now)) c.deref.ensures.value ∙ ap (form_marked marks ds) f in
    let r : IsRead ts (length marks) = read_at ts (length marks) c.of.result.at c.node.result.now k h c.node.ensures.row c.node.ensures.tree c.node.ensures.parts c.node.ensures.merged in
    let l = length_push marks b in
    record {
      count = ap length c.in_ok-push.ensures.items ∙ l ∙ ap (λ x. x + 1) m;
      marked = subst (AreEmptySoFar ts ds) (sym c.in_ok-push.ensures.items) (so_far_more ts ds marks b i.marked h r q);
    }
