use Rattle.std.proofs.Common.{◌≡◌, drop}
use Rattle.xd_syntax.specs.SoundTables.{main_parameter}
use Rattle.xd_sound.proofs.sound.parameter_of_main.Given as goal

abbrev pub invariant-loop-function : goal.invariant-loop-function
invariant-loop-function l = main_parameter l.functions ≡ main_parameter (drop l.function-index l.functions)
