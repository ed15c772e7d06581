use Rattle.std.proofs.Common.{◌≡◌, ◌<◌, length, drop}
use Rattle.std.specs.List.{AllByRecursion}
use Rattle.xd_syntax.specs.Types.{type_numbers}
use Rattle.xd_sound.specs.Emptiness.{all_marked}
use Rattle.xd_sound.proofs.empty.all_are_marked.Given as goal

abbrev pub invariant-loop-part : goal.invariant-loop-part
invariant-loop-part l =
    (all_marked l.marks (type_numbers l.parts) ≡ all_marked l.marks (type_numbers (drop l.part-index l.parts)))
    × AllByRecursion (λ i. i < length l.marks) (type_numbers (drop l.part-index l.parts))
