use Rattle.xd_goals.proofs.HasGrownLemmas.{grown-same}
use Rattle.xd_goals.proofs.grow.repair_leaf.Goals as goal

pub returns-else-is_refuted : goal.returns-else-is_refuted
returns-else-is_refuted c = record {
  grows = grown-same c.requires.can.consistent c.requires.can.right;
  grown = c.requires.opens (c.is_refuted.ensures c.if-is_refuted.false);
}
