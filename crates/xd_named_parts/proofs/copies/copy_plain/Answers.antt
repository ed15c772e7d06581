use Rattle.xd_same_types.proofs.Tables.{keeps_then}
use Rattle.xd_named_parts.specs.Copies.{AreGivenWith}
use Rattle.xd_named_parts.proofs.CopyLaws.{copies_kept, grows_by, grows_then}
use Rattle.xd_named_parts.proofs.copies.copy_plain.Goals as goal

pub loop-turn-preserved : goal.loop-turn-preserved
loop-turn-preserved c =
    let given = c.args.given.now in
    let old = given.pool.types in
    let words = given.names.items in
    let bodies = given.bodies.items in
    let first = c.args.pool.now.types in
    let mid = c.loop-turn.pool.types in
    let new = c.put_plain.new.pool.types in
    let inner = c.args.inner.now in
    let before = c.loop-turn.plain.items in
    let after = c.put_plain.new.plain.items in
    let inv = c.loop-turn.invariant in
    record {
      keeps = keeps_then _ _ _ inv.keeps c.put_plain.ensures.keeps;
      grows = grows_then (AreGivenWith old words bodies first inner) old first mid new c.args.plain.now.items before after inv.grows
          (grows_by (AreGivenWith old words bodies mid inner) (AreGivenWith old words bodies first inner) old mid new before after
          (λ N M h. (h.0, copies_kept N M old first mid inner inv.keeps.rows c.requires.inner h.1)) c.in_ok-put_plain.ensures.grows);
      bare = λ h. c.in_ok-put_plain.ensures.bare (inv.bare h);
    }
