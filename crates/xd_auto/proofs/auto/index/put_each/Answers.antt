use Rattle.std.proofs.Common.{arith}
use Rattle.xd_auto.specs.Index.{numbers_at}
use Rattle.xd_auto.proofs.IsIndexLemmas.{AddsTo-if, AddsTo-is, AddsTo-then, stands_more}
use Rattle.xd_auto.proofs.auto.index.put_each.Goals as goal

pub returns-in_err-put-clause-adds : goal.returns-in_err-put-clause-adds
returns-in_err-put-clause-adds g c = λ q.
    AddsTo-then c.args.number _ _ _ (c.loop-name.invariant.adds q) (AddsTo-is c.args.number (numbers_at g.N.Ord.cmp c.loop-name.named q) (numbers_at g.N.Ord.cmp c.put.new.named q) (c.in_err-put.ensures.err q))

pub loop-name-preserved : goal.loop-name-preserved
loop-name-preserved g c = record {
  adds = λ q. AddsTo-then c.args.number _ _ _ (c.loop-name.invariant.adds q) (AddsTo-if c.args.number _ (numbers_at g.N.Ord.cmp c.loop-name.named q) (numbers_at g.N.Ord.cmp c.put.new.named q) (c.in_ok-put.ensures.ok q));
  stands = λ q named.
      stands_more g.N.Ord.cmp c.args.number c.args.names.now c.loop-name.name-index c.name-item.result q (numbers_at g.N.Ord.cmp c.loop-name.named q) (numbers_at g.N.Ord.cmp c.put.new.named q)
      (omega arith) c.name-item.is (c.in_ok-put.ensures.ok q) (c.loop-name.invariant.stands q) named;
}
