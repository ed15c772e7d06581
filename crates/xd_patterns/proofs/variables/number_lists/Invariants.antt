use Rattle.std.proofs.Common.{◌≡◌, ◌+◌, length}
use Rattle.xd_patterns.specs.Variables.{AreNumbered, numbers_in}
use Rattle.xd_patterns.proofs.variables.number_lists.Given as goal

abbrev pub invariant-loop-done : goal.invariant-loop-done
invariant-loop-done l = AreNumbered l.patterns l.variables.keys l.marks (l.done + 1) (numbers_in l.lists.items) × (length l.lists.items ≡ l.done + 1)
