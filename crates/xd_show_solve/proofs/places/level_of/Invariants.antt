use Rattle.std.proofs.Common.{◌≡◌, ◌<◌, length, get_or}
use Rattle.xd_show_solve.specs.Levels.{IsLevel}
use Rattle.xd_show_solve.proofs.PlaceLaws.{ClosedBelow}
use Rattle.xd_show_solve.proofs.places.level_of.Given as goal

abbrev pub invariant-loop-number : goal.invariant-loop-number
invariant-loop-number l = record {
  level : IsLevel l.fn.auto l.level.states.items l.level.places.items;
  some : 0 < length l.level.states.items;
  first : get_or l.level.states.items 0 l.fn.start ≡ l.fn.start;
  closed : ClosedBelow l.fn.auto l.level.states.items l.level.places.items l.number;
}
