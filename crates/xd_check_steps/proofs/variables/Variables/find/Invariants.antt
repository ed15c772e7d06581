use Rattle.std.proofs.Common.{◌≡◌, take}
use Rattle.std.specs.Prelude.{reverse}
use Rattle.xd_check_steps.specs.InScope.{state_of}
use Rattle.xd_check_steps.proofs.variables.Variables.find.Given as goal

abbrev pub invariant-loop-number : goal.invariant-loop-number
invariant-loop-number l = state_of (reverse (take l.number l.self-inside.variables.items)) l.name ≡ state_of l.self l.name
