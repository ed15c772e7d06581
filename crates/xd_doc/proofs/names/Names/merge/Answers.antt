use Rattle.std.proofs.Common.{◌≡◌, sym, ◌∙◌, [], ◌∷◌, ◌++◌, cond, append-nil, refl}
use Rattle.xd_doc.specs.Merging.{is_kept}
use Rattle.xd_doc.proofs.MergeLemmas.{merged_more, merged_none, kept_append, rest_sorted}
use Rattle.xd_doc.proofs.names.Names.merge.Goals as goal
use Rattle.xd_doc.proofs.names.Names.merge.Goals.{then-is_kept+in_ok-share+in_ok-push, else-is_kept}

pub loop-next-preserved : goal.loop-next-preserved
loop-next-preserved g c =
    let o = g.met.N.Ord.total in
    let i = c.loop-next.invariant in
    let n = c.in-Some.next in
    let k = is_kept c.args.self.now.except c.args.except n.in_one n.in_two in
    let items : c.if-is_kept.kept.items ≡ cond k (c.loop-next.kept.items ++ n.name.now ∷ []) c.loop-next.kept.items =
    elim c.if-is_kept.branch [
      | then-is_kept+in_ok-share+in_ok-push w ↦ rw (w.kept-is, w.in_ok-push.ensures.items, w.in_ok-share.ensures, sym c.is_kept.ensures ∙ w.if-is_kept.true) refl
      | else-is_kept w ↦ rw (w.kept-is, sym c.is_kept.ensures ∙ w.if-is_kept.false) refl
    ] in
    record {
      one = rw c.rest-one.ensures (rest_sorted o c.loop-next.one.now n.in_one i.one);
      two = rw c.rest-two.ensures (rest_sorted o c.loop-next.two.now n.in_two i.two);
      merged = λ more h.
          rw (kept_append o g.met.N.Ord.matches_eq k c.loop-next.kept.items c.if-is_kept.kept.items more n.name.now items)
          (i.merged (cond k (n.name.now ∷ more) more)
          (merged_more o g.met.N.Ord.matches_eq g.N.Name.is_name c.args.self.now.except c.args.except n.in_one n.in_two c.loop-next.one.now c.loop-next.two.now more n.name.now c.in-Some.ensures.some i.one i.two
          (rw (sym c.rest-one.ensures, sym c.rest-two.ensures) h)));
    }

pub returns : goal.returns
returns g c =
    let ends = c.next_of.ensures.none c.in_default.is in
    rw (sym (append-nil c.loop-next.kept.items)) (c.loop-next.invariant.merged [] (rw (ends.0, ends.1) (merged_none g.met.N.Ord.total g.met.N.Ord.matches_eq g.N.Name.is_name c.args.self.now.except c.args.except)))
