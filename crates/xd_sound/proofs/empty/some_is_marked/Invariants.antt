use Rattle.std.proofs.Common.{◌≡◌, ◌<◌, length, drop}
use Rattle.std.specs.List.{AllByRecursion}
use Rattle.xd_syntax.specs.Types.{type_numbers}
use Rattle.xd_sound.specs.Emptiness.{some_marked}
use Rattle.xd_sound.proofs.empty.some_is_marked.Given as goal

abbrev pub invariant-loop-part : goal.invariant-loop-part
invariant-loop-part l =
    (some_marked l.marks (type_numbers l.parts) ≡ some_marked l.marks (type_numbers (drop l.part-index l.parts)))
    × AllByRecursion (λ i. i < length l.marks) (type_numbers (drop l.part-index l.parts))
