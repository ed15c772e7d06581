use Rattle.std.proofs.Common.{[], ◌∙◌, subst}
use Rattle.std.specs.List.{AllByRecursion}
use Rattle.xd_show_solve.specs.Levels.{IsWritten}
use Rattle.xd_same_types.specs.Grown.{GrowsTypes}
use Rattle.xd_show.specs.Contents.{GrowsContents, MeansStates}
use Rattle.xd_show.proofs.ContentLaws.{all_stay_written, contents_law}
use Rattle.xd_show.proofs.contents.contents_by.Goals as goal

pub write_placed-requires-clause-count : goal.write_placed-requires-clause-count
write_placed-requires-clause-count c = (c.in_ok-write_names.ensures.contents c.args.auto.now).count ∙ c.in_ok-written.ensures.first.count

pub write_placed-requires-clause-belong : goal.write_placed-requires-clause-belong
write_placed-requires-clause-belong c = (c.in_ok-write_names.ensures.contents []).belong c.in_ok-written.ensures.first.belong

pub returns-clause-contents : goal.returns-clause-contents
returns-clause-contents c =
    let a = c.args.auto.now in
    let words = c.args.names.now in
    let named = c.args.plan.now.named.items in
    let first = c.first_contents.new.pool.types in
    let mid = c.write_names.new.pool.types in
    let new = c.write_placed.new.pool.types in
    let u = c.in_ok-written.written.items in
    let v = c.write_names.new.written.items in
    let w = c.write_placed.new.written.items in
    contents_law a words named first mid new u v w c.in_ok-written.ensures.first (subst (λ rows. GrowsTypes rows first) c.requires.none c.in_ok-written.ensures.keeps)
    (subst (λ ss. GrowsContents (MeansStates a words ss) a first u mid v) c.deref.ensures.value (c.in_ok-write_names.ensures.contents a)) c.in_ok-write_names.ensures.grows
    c.in_ok-write_placed.ensures.contents c.in_ok-write_placed.ensures.keeps

pub returns-clause-written : goal.returns-clause-written
returns-clause-written c =
    let v = c.write_names.new.written.items in
    let w = c.write_placed.new.written.items in
    all_stay_written v w c.args.plan.now.named.items c.in_ok-write_placed.ensures.contents.written (subst (AllByRecursion (IsWritten v)) c.deref.ensures.value c.in_ok-write_names.ensures.written)
