use Rattle.std.proofs.Common.{arith, rules}
use Rattle.xd_auto.specs.Index.{numbers_at}
use Rattle.xd_auto.proofs.IsIndexLemmas.{IsIndex-kept, index_step}
use Rattle.xd_auto.proofs.auto.index.Index.extend.Goals as goal

pub returns-in_err-add-clause-index : goal.returns-in_err-add-clause-index
returns-in_err-add-clause-index g c =
    rw c.in_err-add.ensures.count
    (IsIndex-kept g.M.Step.takes_name c.args.moves.now c.loop-number.self.count (numbers_at g.N.Ord.cmp c.loop-number.self.named) c.loop-number.self.others.items (numbers_at g.N.Ord.cmp c.add.new.self.named) c.add.new.self.others.items
    c.loop-number.invariant.index c.in_err-add.ensures.named c.in_err-add.ensures.others)

pub loop-number-preserved : goal.loop-number-preserved
loop-number-preserved g c =
    let at = c.loop-number.invariant.at in
    record {
      index = rw (← at)
          (index_step g.M.Step.takes_name c.args.moves.now c.loop-number.self.count (numbers_at g.N.Ord.cmp c.loop-number.self.named) c.loop-number.self.others.items (numbers_at g.N.Ord.cmp c.add.new.self.named) c.add.new.self.others.items
          c.index-moves-number.result c.loop-number.invariant.index (omega arith) (rw at c.index-moves-number.is) c.in_ok-add.ensures.named c.in_ok-add.ensures.others c.in_ok-add.ensures.ok);
      at = search rules;
      end_is = search rules;
    }
