use Rattle.xd_named_parts.specs.Copies.{AreNoCopies}
use Rattle.xd_named_parts.proofs.parts.no_copies.Given as goal

abbrev pub invariant-loop-number : goal.invariant-loop-number
invariant-loop-number l = AreNoCopies l._number l.made.items
