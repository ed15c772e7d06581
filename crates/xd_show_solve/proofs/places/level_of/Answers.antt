use Rattle.std.proofs.Common.{◌<◌, ◌≤◌, length, ◌∙◌, arith}
use Rattle.xd_show_solve.proofs.PlaceLaws.{closed_more, count_known}
use Rattle.xd_show_solve.proofs.places.level_of.Goals as goal

pub loop-number-preserved : goal.loop-number-preserved
loop-number-preserved c =
    let inv = c.loop-number.invariant in
    let r = c.in_ok-see_number.ensures in
    let some : 0 < length c.see_number.new.level.states.items = let g = r.grows.count in let s = inv.some in omega arith in
    record {
      level = r.level;
      some = some;
      first = r.grows.stay 0 c.args.start inv.some ∙ inv.first;
      closed = closed_more c.args.auto.now c.loop-number.level.states.items c.see_number.new.level.states.items c.loop-number.level.places.items c.see_number.new.level.places.items c.loop-number.number r.keeps r.grows r.beyond inv.closed r.closed;
    }

pub returns-clause-whole : goal.returns-clause-whole
returns-clause-whole c =
    let inv = c.loop-number.invariant in
    let k = count_known c.loop-number.level.places.items in
    let few = inv.level.few in
    let count = inv.level.count in
    let end : length c.args.auto.now ≤ c.loop-number.number = omega (arith, c.len-number-end.ensures.value) in
    let all : length c.loop-number.level.states.items ≤ c.loop-number.number = omega (arith, k, few, count, end) in
    record { level = inv.level; closed = λ i s l e. inv.closed i s (omega arith) l e }
