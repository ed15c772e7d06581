use Rattle.std.proofs.Common.{reverse}
use Rattle.xd_grammar.specs.Fits.{work}
use Rattle.xd_grammar.specs.Machine.{Turns}
use Rattle.xd_grammar.proofs.machine.shift.Given as goal

abbrev pub invariant-symbols : goal.invariant-symbols
invariant-symbols l = Turns l.fn.depth (reverse l.fn.stack.items) l.kind l.depth (reverse l.stack.items)

abbrev pub decreases-symbols : goal.decreases-symbols
decreases-symbols l = work (reverse l.stack.items)
