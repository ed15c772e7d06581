use Rattle.std.proofs.Common.{◌≡◌, ◌<◌, drop, length}
use Rattle.std.specs.List.{AllByRecursion, list_all}
use Rattle.xd_syntax.specs.NameFaults.{known_types}
use Rattle.xd_syntax.specs.Kept.{program_tree}
use Rattle.xd_sound.specs.Adopt.{form_known}
use Rattle.xd_syntax.specs.Nodes.{form_at}
use Rattle.xd_sound.proofs.sound.SoundProgram.defines_all.Given as goal

abbrev pub invariant-loop-at : goal.invariant-loop-at
invariant-loop-at l =
    (list_all (λ i. form_known (known_types (program_tree l.self)) (form_at l.types i)) l.reached
    ≡ list_all (λ i. form_known (known_types (program_tree l.self)) (form_at l.types i)) (drop l.at-index l.reached))
    × AllByRecursion (λ i. i < length l.types) (drop l.at-index l.reached)
