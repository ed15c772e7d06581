use Rattle.std.proofs.Common.{◌≡◌, length}
use Rattle.xd_auto.specs.Index.{IsIndex, numbers_at}
use Rattle.xd_auto.proofs.auto.index.Index.extend.Given as goal

abbrev pub invariant-loop-number : goal.invariant-loop-number
invariant-loop-number g l = record {
  index : IsIndex g.M.Step.takes_name l.moves l.self.count (numbers_at g.N.Ord.cmp l.self.named) l.self.others.items;
  at : l.self.count ≡ l.number;
  end_is : l.number-end ≡ length l.moves;
}
