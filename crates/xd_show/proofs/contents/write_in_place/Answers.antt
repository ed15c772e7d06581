use Rattle.std.proofs.Common.{sym, subst, ◌<◌}
use Rattle.xd_doc.proofs.Options.{some_holds}
use Rattle.xd_show_solve.specs.Levels.{MeansAny}
use Rattle.xd_show.specs.Contents.{IsTypeOf}
use Rattle.xd_show.proofs.ContentLaws.{contents_grown, contents_set}
use Rattle.xd_show.proofs.contents.write_in_place.Goals as goal

pub returns-in-Some-clause-contents : goal.returns-in-Some-clause-contents
returns-in-Some-clause-contents c =
    let a = c.args.auto.now in
    let s = c.args.state in
    let old = c.args.pool.now.types in
    let new = c.content_type.new.pool.types in
    let written = c.args.written.now.items in
    let id = c.in-Some.id in
    let found = some_holds (IsTypeOf MeansAny a old c.deref-2.result.now s new) c.in_ok-id.field-0 id c.in-Some.is c.in_ok-id.ensures.found in
    let it = subst (λ xs. IsTypeOf MeansAny a old xs s new id) c.deref-2.ensures.value found in
    let l = subst (λ n. s.number < n) (sym c.requires.count) c.requires.state in
    rw c.number.ensures (contents_set MeansAny a old new written s id c.content_type.ensures.keeps.rows c.requires.belong l it.exact it.belongs)

pub returns-in_default-clause-contents : goal.returns-in_default-clause-contents
returns-in_default-clause-contents c = contents_grown MeansAny c.args.auto.now c.args.pool.now.types c.content_type.new.pool.types c.args.written.now.items c.content_type.ensures.keeps.rows c.requires.belong
