use Rattle.std.proofs.Common.{get_or, sym, ap, ◌∙◌, subst}
use Rattle.xd_doc.proofs.Lists.{all_there}
use Rattle.xd_syntax.specs.Table.{IsSeqPart}
use Rattle.xd_syntax.specs.Tree.{seq_of}
use Rattle.xd_same_types.specs.Same.{AreSeqParts, trees}
use Rattle.xd_same_types.proofs.Ids.{got}
use Rattle.xd_same_types.proofs.SeqLaws.{seq_first, seq_more}
use Rattle.xd_same_types.proofs.Tables.{keeps_refl, keeps_then, kept_seq_part}
use Rattle.xd_same_types.proofs.seqs.seq.Goals as goal

pub loop-part-init : goal.loop-part-init
loop-part-init c = record {
  keeps = keeps_refl _;
  parts = c.in_ok-parts.ensures.parts;
  others = subst (AreSeqParts c.args.pool.now.types) (sym c.deref-part-items.ensures.value) c.in_ok-others.ensures.parts;
  same = seq_first _ _ _ c.in_ok-parts.ensures.tree;
  second = ap (λ xs. seq_of (trees c.args.pool.now.types xs)) c.deref-part-items.ensures.value ∙ c.in_ok-others.ensures.tree;
}

pub push_part-requires-clause-next : goal.push_part-requires-clause-next
push_part-requires-clause-next c =
    let inv = c.loop-part.invariant in
    let items = c.deref-part-items.result.now in
    let part = get_or items c.loop-part.part-index (record { at = 0 }) in
    kept_seq_part _ _ inv.keeps part (all_there (λ id. IsSeqPart c.args.pool.now.types id.at) items c.loop-part.part-index part inv.others c.loop-part-test.true (got items c.loop-part.part-index _ c.loop-part-test.true))

pub loop-part-preserved : goal.loop-part-preserved
loop-part-preserved c =
    let inv = c.loop-part.invariant in
    let items = c.deref-part-items.result.now in
    record {
      keeps = keeps_then _ _ _ inv.keeps c.push_part.ensures.keeps;
      parts = c.in_ok-push_part.ensures.parts;
      others = inv.others;
      same = seq_more _ _ inv.keeps _ _ _ items c.loop-part.part-index _ inv.others c.loop-part-test.true (got items c.loop-part.part-index _ c.loop-part-test.true) inv.same c.in_ok-push_part.ensures.same;
      second = inv.second;
    }
