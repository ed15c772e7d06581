use Rattle.std.proofs.Common.{take}
use Rattle.xd_show_blocks.specs.AtStates.{AreShownBy, HasBlocks}
use Rattle.xd_show_blocks.proofs.blocks.blocks_of.Given as goal

abbrev pub invariant-loop-variable : goal.invariant-loop-variable
invariant-loop-variable l = record {
  written : HasBlocks l.bound.auto l.taken (take l.variable-index l.variable-items) l.text.items;
  states : AreShownBy l.bound.auto l.taken l.states;
}
