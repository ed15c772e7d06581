use Rattle.std.proofs.Common.{◌≡◌, arith, ◌∷◌, ◌+◌, [], length, length-append, sym, subst, ap, ◌∙◌}
use Rattle.xd_syntax.specs.Table.{tree_at}
use Rattle.xd_syntax.specs.declared.types.TypeId.{TypeId}
use Rattle.xd_meaning.specs.Heads.{pieces}
use Rattle.xd_moves.specs.Found.{IsContent}
use Rattle.xd_heads.specs.Numbered.{AreNodeNumbers}
use Rattle.xd_heads.proofs.HeadListerLemmas.{numbers_more}
use Rattle.xd_heads.proofs.lister.number_nodes.Goals as goal

pub loop-at-preserved : goal.loop-at-preserved
loop-at-preserved c =
    let types = c.args.types.now in
    let v = c.loop-at.invariant in
    let n = c.loop-at.at in
    let k = c.in_ok-content.field-0 in
    let at : c.of.result.at ≡ n = ap (λ (x : TypeId). x.at) c.of.ensures in
    let content = subst (λ m. IsContent types c.loop-at.cells c.content.new.cells (pieces (tree_at types m)) k) at c.in_ok-content.ensures.content in
    record {
      each = ap length c.in_ok-push.ensures.items ∙ length-append c.loop-at.numbers.items (k ∷ []) ∙ ap (λ m. m + 1) v.each;
      numbers =
          subst (AreNodeNumbers types c.content.new.cells (n + 1)) (sym c.in_ok-push.ensures.items)
          (numbers_more types c.see_table.ensures.built c.loop-at.cells c.content.new.cells n k c.loop-at.numbers.items v.each (omega (arith, c.loop-at-test.true, c.len-at-end.ensures)) v.numbers content);
      nodes = content.cells.nodes v.nodes;
      chosen = c.in_ok-content.ensures.chosen v.chosen;
    }
