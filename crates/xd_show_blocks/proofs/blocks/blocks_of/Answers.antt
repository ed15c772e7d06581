use Rattle.std.proofs.Common.{◌≡◌, ◌+◌, [], ◌∷◌, ◌++◌, take, ap, sym, subst, ◌∙◌, arith}
use Rattle.std.specs.List.{AllZip}
use Rattle.std.proofs.lemmas.List.{flat_map_more, take_more}
use Rattle.xd_show_blocks.specs.AtStates.{IsBlockAt}
use Rattle.xd_show_blocks.specs.Blocks.{block_text}
use Rattle.xd_show_blocks.proofs.BlockLemmas.{each_more}
use Rattle.xd_show_blocks.proofs.blocks.blocks_of.Goals as goal

pub loop-variable-preserved : goal.loop-variable-preserved
loop-variable-preserved c =
    let a = c.args.bound.now.auto in
    let taken = c.args.taken.now in
    let xs = c.deref-variable-items.result.now in
    let i = c.loop-variable.variable-index in
    let x = c.variable-item.result in
    let so_far = c.loop-variable.invariant.written in
    let added = c.in_ok-add_block.ensures.block in
    let more : take (i + 1) xs ≡ take i xs ++ x ∷ [] = take_more xs i x (omega arith) ∙ ap (λ y. take i xs ++ y ∷ []) (sym c.variable-item.is) in
    record {
      written = record {
        blocks = so_far.blocks ++ added.block ∷ [];
        each = subst (λ ys. AllZip (IsBlockAt a taken) ys (so_far.blocks ++ added.block ∷ [])) (sym more) (each_more a taken (take i xs) so_far.blocks x added.block so_far.each added.shows);
        written = added.grown ∙ ap (λ t. t ++ block_text added.block) so_far.written ∙ flat_map_more block_text [] so_far.blocks added.block;
      };
      states = c.in_ok-add_block.ensures.states;
    }
