use Rattle.std.proofs.Common.{arith}
use Rattle.xd_doc.proofs.StoredLemmas.{belong-front, firsts_then-append, Keeps-trans}
use Rattle.xd_doc.proofs.store.Store.append.Goals as goal

pub loop-seq-preserved : goal.loop-seq-preserved
loop-seq-preserved c =
    let i = c.loop-seq.invariant in
    let b = belong-front c.args.self.now c.pop.new.self.items c.in-Some.seq (rw c.in-Some.ensures.items at i.belong) in
    let e = i.keeps.same c.in-Some.seq b.1 in
    let j = rw (c.in-Some.ensures.items, firsts_then-append) at i.joined in
    record {
      belong = b.0;
      made = c.in_ok-made.ensures.belongs;
      keeps = Keeps-trans _ _ _ i.keeps c.first_before.ensures.keeps;
      few = omega (arith, c.first_before.ensures.one, c.in-Some.ensures.cases, i.few);
      joined = rw (c.in_ok-made.ensures.ok, e) j;
    }
