use Rattle.std.proofs.Common.{◌≡◌, arith, length, subst}
use Rattle.xd_moves.specs.Numbered.{AreNumberedBy}
use Rattle.xd_moves.proofs.HasNumberLemmas.{are_first}
use Rattle.xd_moves.proofs.firsts.FirstPieces.new.Goals as goal

pub returns : goal.returns
returns c =
    let rows = c.args.types.now in
    let n : c.loop-at.at ≡ length rows = omega (arith, c.loop-at-test.false, c.len-at-end.ensures) in
    are_first rows c.see_table.ensures.built c.loop-at.lists c.len-count.ensures.once c.loop-at.made
    (subst (λ k. AreNumberedBy rows k c.loop-at.lists c.loop-at.made) n c.loop-at.invariant)
