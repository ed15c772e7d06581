use Rattle.std.proofs.Common.{◌≡◌, take}
use Rattle.xd_shown.specs.Bodies.{definitions_of}
use Rattle.xd_shown.proofs.definitions.definitions.Given as goal

abbrev pub invariant-loop-number : goal.invariant-loop-number
invariant-loop-number l = l.made.items ≡ definitions_of (take l.number l.words) (take l.number l.bodies)
