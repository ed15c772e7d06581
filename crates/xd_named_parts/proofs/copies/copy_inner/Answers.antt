use Rattle.xd_same_types.proofs.Tables.{keeps_then}
use Rattle.xd_named_parts.specs.Copies.{AreGiven}
use Rattle.xd_named_parts.proofs.CopyLaws.{grows_then}
use Rattle.xd_named_parts.proofs.copies.copy_inner.Goals as goal

pub loop-turn-preserved : goal.loop-turn-preserved
loop-turn-preserved c =
    let given = c.args.given.now in
    let inv = c.loop-turn.invariant in
    record {
      keeps = keeps_then _ _ _ inv.keeps c.put_inner.ensures.keeps;
      grows = grows_then (AreGiven given.pool.types given.names.items given.bodies.items) given.pool.types c.args.pool.now.types c.loop-turn.pool.types c.put_inner.new.pool.types c.args.inner.now.items c.loop-turn.inner.items c.put_inner.new.inner.items
          inv.grows c.in_ok-put_inner.ensures.grows;
    }
