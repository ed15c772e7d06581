use Rattle.std.specs.List.{AllByRecursion}
use Rattle.xd_patterns.specs.CompiledProgram.{IsLinearPattern}
use Rattle.xd_check_steps.proofs.collect.patterns_of.Given as goal

abbrev pub invariant-loop-function : goal.invariant-loop-function
invariant-loop-function l = AllByRecursion (IsLinearPattern l.sound.patterns) l.ids.items
