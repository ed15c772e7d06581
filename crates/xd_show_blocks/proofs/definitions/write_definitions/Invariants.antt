use Rattle.std.proofs.Common.{◌≡◌, ◌++◌, take}
use Rattle.std.specs.List.{flat_map}
use Rattle.xd_show_blocks.proofs.BlockLemmas.{line_of}
use Rattle.xd_show_blocks.proofs.definitions.write_definitions.Given as goal

abbrev pub invariant-loop-definition : goal.invariant-loop-definition
invariant-loop-definition l = l.out.items ≡ l.initial.out.items ++ flat_map (line_of l.program.types) (take l.definition-index l.definition-items)
