use Rattle.std.proofs.Common.{◌<◌, length, arith, sym, ◌∙◌}
use Rattle.xd_doc.proofs.StoredLemmas.{Keeps-same}
use Rattle.xd_points.specs.Points.{state_at}
use Rattle.xd_points.proofs.HasMovesLemmas.{expanded_grown}
use Rattle.xd_points.proofs.TableLemmas.{expanded_after, first_mean, made_extends, mean_after, rights_belong, start_is, start_means, within}
use Rattle.xd_points.proofs.table.PointTable.find.Goals as goal

pub stand_for-requires-clause-states : goal.stand_for-requires-clause-states
stand_for-requires-clause-states c = record {
  left = c.requires.left;
  pattern = c.requires.pattern;
  rights = rights_belong c.args.auto.now c.args.patterns.now c.requires.patterns c.args.asked.rights.now c.requires.rights;
}

pub expand_all-requires : goal.expand_all-requires
expand_all-requires c = record {
  expanded = expanded_grown c.args.self.now.first c.args.auto.now c.args.patterns.now c.args.self.now.points c.stand_for.new.points c.args.self.now.rows.items c.requires.table.expanded c.in_ok-start.ensures.grows c.in_ok-start.ensures.whole;
}

pub learn-requires : goal.learn-requires
learn-requires c =
    let t = c.requires.table in
    let old = c.args.self.now.points in
    let new = c.expand_all.new.points in
    let store = c.args.self.now.store in
    let now = c.in_ok-expand_all.ensures in
    c.stays_known.ensures old.made new.made store store
    (made_extends c.args.auto.now c.args.patterns.now old c.stand_for.new.points new t.expanded.whole.count now.expanded.whole c.in_ok-start.ensures.grows now.keeps.longer (λ i lt. now.moves i (omega (arith, lt, t.every))))
    (Keeps-same store) t.known

pub place_points-requires-clause-expanded : goal.place_points-requires-clause-expanded
place_points-requires-clause-expanded c = record { first = c.args.self.now.first; rows = c.expand_all.new.rows.items; are = c.in_ok-expand_all.ensures.expanded; every = c.in_ok-expand_all.ensures.every }

pub place_points-requires-clause-none : goal.place_points-requires-clause-none
place_points-requires-clause-none c = λ i lt unknown d.
    c.learn.ensures.knows.none (state_at i) (omega (arith, lt, c.in_ok-learn.ensures.all, c.in_ok-expand_all.ensures.expanded.whole.count)) unknown d

pub place_points-requires-clause-count : goal.place_points-requires-clause-count
place_points-requires-clause-count c = omega (arith, c.requires.table.count, c.in_ok-start.ensures.grows.longer, c.in_ok-expand_all.ensures.keeps.longer)

pub place_points-requires-clause-belong : goal.place_points-requires-clause-belong
place_points-requires-clause-belong c = c.requires.table.belong

pub place_points-requires-clause-stands : goal.place_points-requires-clause-stands
place_points-requires-clause-stands c = λ d i lt.
    let t = c.requires.table in
    let there : i < length c.args.self.now.points.points.items = omega (arith, lt, t.count) in
    t.stands d i there
    ∙ sym (first_mean c.args.auto.now c.args.patterns.now c.requires.patterns c.args.self.now.points c.stand_for.new.points c.expand_all.new.points c.args.asked.left c.args.asked.pattern c.args.asked.rights.now c.in_ok-start.start
    c.in_ok-start.ensures.grows c.in_ok-start.ensures.state c.in_ok-expand_all.ensures.keeps d i there)

pub returns-clause-table : goal.returns-clause-table
returns-clause-table c =
    let now = c.in_ok-expand_all.ensures in
    let placed = c.in_ok-place_points.ensures in
    let a = c.args.auto.now in
    let n = c.place_points.new.auto in
    let b = c.args.patterns.now in
    let new = c.expand_all.new.points in
    let rows = c.expand_all.new.rows.items in
    record {
      expanded = expanded_after a n b c.len-states.ensures.closed c.place_points.ensures.extends new c.args.self.now.first rows now.expanded;
      every = now.every;
      known = c.learn.ensures.knows;
      count = placed.count;
      belong = placed.belong;
      stands = λ d i lt. placed.stands d i lt ∙ mean_after a n b c.len-states.ensures.closed c.place_points.ensures.extends new c.args.self.now.first rows now.expanded d i lt;
    }

pub returns-clause-belongs : goal.returns-clause-belongs
returns-clause-belongs c =
    let here = within c.args.auto.now c.args.patterns.now c.requires.patterns c.args.self.now.points c.stand_for.new.points c.expand_all.new.points c.args.asked.left c.args.asked.pattern c.args.asked.rights.now c.in_ok-start.start
    c.in_ok-start.ensures.grows c.in_ok-start.ensures.state c.in_ok-expand_all.ensures.keeps in
    omega (arith, here, c.in_ok-expand_all.ensures.expanded.whole.count)

pub returns-clause-pattern : goal.returns-clause-pattern
returns-clause-pattern c =
    start_is c.args.auto.now c.args.patterns.now c.requires.patterns c.args.self.now.points c.stand_for.new.points c.expand_all.new.points c.args.asked.left c.args.asked.pattern c.args.asked.rights.now c.in_ok-start.start
    c.in_ok-start.ensures.grows c.in_ok-start.ensures.state c.in_ok-expand_all.ensures.keeps

pub returns-clause-means : goal.returns-clause-means
returns-clause-means c = λ d.
    let a = c.args.auto.now in
    let b = c.args.patterns.now in
    let n = c.place_points.new.auto in
    let new = c.expand_all.new.points in
    let start = c.in_ok-start.start in
    let here = within a b c.requires.patterns c.args.self.now.points c.stand_for.new.points new c.args.asked.left c.args.asked.pattern c.args.asked.rights.now start
    c.in_ok-start.ensures.grows c.in_ok-start.ensures.state c.in_ok-expand_all.ensures.keeps in
    sym (mean_after a n b c.len-states.ensures.closed c.place_points.ensures.extends new c.args.self.now.first c.expand_all.new.rows.items c.in_ok-expand_all.ensures.expanded d start.number here)
    ∙ start_means a b c.requires.patterns c.args.self.now.points c.stand_for.new.points new c.args.asked.left c.args.asked.pattern c.args.asked.rights.now start
    c.in_ok-start.ensures.grows c.in_ok-start.ensures.state c.in_ok-expand_all.ensures.keeps d
