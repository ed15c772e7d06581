use Rattle.std.proofs.Common.{◌≡◌, length}
use Rattle.xd_boole.specs.Universal.{MarkUniversal}
use Rattle.xd_boole.proofs.universal.universal_states.Given as goal

abbrev pub invariant-loop-number : goal.invariant-loop-number
invariant-loop-number l = record {
  count : length l.marks.items ≡ l.number;
  universal : MarkUniversal l.fn.auto l.marks.items;
}
