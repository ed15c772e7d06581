use Rattle.std.proofs.Common.{take}
use Rattle.xd_boole.specs.Matching.{AddsThose}
use Rattle.xd_boole.proofs.matching.add_moves.Given as goal

abbrev pub invariant-loop-number : goal.invariant-loop-number
invariant-loop-number g l = AddsThose l.moves (take l.number-index l.numbers) l.initial.made.items l.made.items
