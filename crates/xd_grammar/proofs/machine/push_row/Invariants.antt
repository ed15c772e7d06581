use Rattle.std.proofs.Common.{◌≡◌, ◌++◌, ◌≤◌, drop, reverse, length}
use Rattle.xd_grammar.proofs.machine.push_row.Given as goal

abbrev pub invariant-loop-i : goal.invariant-loop-i
invariant-loop-i l = record {
  within : l.i ≤ length l.row;
  pushed : reverse l.stack.items ≡ drop l.i l.row ++ reverse l.fn.stack.items;
}

abbrev pub decreases-loop-i : goal.decreases-loop-i
decreases-loop-i l = l.i
