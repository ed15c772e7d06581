use Rattle.std.proofs.Common.{take, drop, arith, length-drop}
use Rattle.xd_command_steps.proofs.Growth.{rest_is, HasGrown-then, take_longer}
use Rattle.xd_command_steps.proofs.output.put_all.Goals as goal

pub loop-at-preserved : goal.loop-at-preserved
loop-at-preserved g c =
    let took = c.in-Ok.ensures.taken in
    let bytes = c.args.bytes.now in
    let at = c.loop-at.at in
    record {
      within = omega (arith, rw (rest_is bytes at) at took.within, length-drop at bytes);
      grew = rw (← take_longer bytes at c.in-Ok.n c.loop-at.invariant.within) (HasGrown-then _ _ _ (take at bytes) (take c.in-Ok.n (drop at bytes)) c.loop-at.invariant.grew (rw (rest_is bytes at) at took.grown));
      faults = omega (arith, c.loop-at.invariant.faults, c.in-Ok.ensures.never_falls);
    }
