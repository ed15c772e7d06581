use Rattle.std.proofs.Common.{take}
use Rattle.xd_syntax.specs.Types.{type_numbers}
use Rattle.xd_sound.specs.Emptiness.{AddsEdges}
use Rattle.xd_sound.proofs.empty.add_parts.Given as goal

abbrev pub invariant-loop-part : goal.invariant-loop-part
invariant-loop-part l = record {
  adds : AddsEdges l.initial.graph l.graph l.at (type_numbers (take l.part-index l.parts));
}
