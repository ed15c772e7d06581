use Rattle.std.proofs.Common.{refl}
use Rattle.xd_boole.proofs.DividesLemmas.{side_added}
use Rattle.xd_boole.proofs.groups.add_inside.Goals as goal

pub returns : goal.returns
returns c = record {
  group = record { class = c.args.inside; sides = c.push.new.self };
  items = c.in_ok-push-2.ensures.items;
  class_is = refl;
  sides_are = side_added c.args.sides.items c.push.new.self.items c.args.side c.in_ok-push.ensures.items;
}
