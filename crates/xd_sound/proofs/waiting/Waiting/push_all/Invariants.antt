use Rattle.std.proofs.Common.{◌++◌, take}
use Rattle.std.specs.List.Sorted.{IsPermutation}
use Rattle.xd_syntax.specs.Types.{type_numbers}
use Rattle.xd_sound.proofs.waiting.Waiting.push_all.Given as goal

abbrev pub invariant-loop-part : goal.invariant-loop-part
invariant-loop-part l = IsPermutation (l.initial.self ++ type_numbers (take l.part-index l.parts)) l.self
