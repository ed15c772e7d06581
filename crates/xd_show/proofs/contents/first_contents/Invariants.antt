use Rattle.std.proofs.Common.{◌≡◌, length}
use Rattle.xd_show.proofs.ContentLaws.{OnlyMarked}
use Rattle.xd_show.proofs.contents.first_contents.Given as goal

abbrev pub invariant-loop-number : goal.invariant-loop-number
invariant-loop-number l = record {
  count : length l.made.items ≡ l.number;
  each : OnlyMarked l.universal l.any l.made.items;
}
