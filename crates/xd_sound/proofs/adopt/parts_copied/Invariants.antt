use Rattle.std.proofs.Common.{◌≡◌, take, map}
use Rattle.xd_syntax.specs.Types.{type_numbers}
use Rattle.xd_sound.specs.Adopt.{copy_from}
use Rattle.xd_sound.proofs.adopt.parts_copied.Given as goal

abbrev pub invariant-loop-part : goal.invariant-loop-part
invariant-loop-part l = l.made.items ≡ map (copy_from l.copies l.originals) (type_numbers (take l.part-index l.parts))
