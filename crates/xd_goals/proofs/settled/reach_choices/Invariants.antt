use Rattle.std.proofs.Common.{take}
use Rattle.xd_goals.specs.Reached.{IsLeafOf, Reaches}
use Rattle.xd_goals.proofs.settled.reach_choices.Given as goal

abbrev pub invariant-loop-choice : goal.invariant-loop-choice
invariant-loop-choice l = Reaches (IsLeafOf l.nodes (take l.choice-index l.choices)) l.initial.found.keys l.found.keys
