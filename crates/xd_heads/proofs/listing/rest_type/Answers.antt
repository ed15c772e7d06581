use Rattle.std.proofs.Common.{List, sym, subst}
use Rattle.xd_syntax.specs.Tree.{Tree, seq_of}
use Rattle.xd_syntax.specs.SoundTables.{IsTypeAt}
use Rattle.xd_heads.proofs.HeadLists.{rests_put, rests_stay}
use Rattle.xd_heads.proofs.Mirrored.{continuation_stays}
use Rattle.xd_heads.proofs.listing.rest_type.Goals as goal

pub returns-in-Some-clause-ok : goal.returns-in-Some-clause-ok
returns-in-Some-clause-ok c = c.requires.rests.right c.args.number c.in-Some.id.now (sym c.in-Some.ensures.value)

pub returns-clause-rests : goal.returns-clause-rests
returns-clause-rests c =
    let old = c.args.sound.now.types in
    let new = c.continuation_type.new.sound.types in
    let cells = c.args.cells.now in
    let k = c.continuation_type.ensures.grows.adds.types in
    let id = c.in_ok-id.id in
    rests_put new cells c.args.rests.now c.insert.new.self c.args.number id c.requires.number
    (subst (λ (K : List Tree). IsTypeAt new (seq_of K) id) (sym (continuation_stays old new k cells c.requires.nodes c.args.number)) c.in_ok-id.ensures.ok)
    (c.in_ok-insert.ensures.updates).0 (rests_stay old new k cells c.requires.nodes c.args.rests.now c.requires.rests)
