use Rattle.xd_show_solve.proofs.PlaceLaws.{text_placed_more, grows_then}
use Rattle.xd_show_solve.proofs.places.see_texts.Goals as goal

pub loop-step-preserved : goal.loop-step-preserved
loop-step-preserved c =
    let inv = c.loop-step.invariant in
    record {
      level = c.in_ok-see.ensures.level;
      placed = text_placed_more _ _ c.args.moves.now c.loop-step.step-index _ c.in_ok-see.ensures.keeps c.loop-step-test.true c.step-item.is inv.placed c.in_ok-see.ensures.placed;
      grows = grows_then _ _ _ inv.grows c.in_ok-see.ensures.grows;
      keeps = λ s x e. c.in_ok-see.ensures.keeps s x (inv.keeps s x e);
    }
