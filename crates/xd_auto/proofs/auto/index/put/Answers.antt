use Rattle.std.proofs.Common.{[], ap, sym, ◌∙◌}
use Rattle.xd_doc.proofs.Results.{OnErr-holds}
use Rattle.xd_auto.specs.Index.{numbers_of}
use Rattle.xd_auto.proofs.IsIndexLemmas.{numbers_kept, numbers_put, is_some_found}
use Rattle.xd_auto.proofs.auto.index.put.Goals as goal

pub returns-in_err-push-in-Some-clause-err : goal.returns-in_err-push-in-Some-clause-err
returns-in_err-push-in-Some-clause-err g c = OnErr-holds c.from_residual.result _ (λ q.
    numbers_kept g.N.Ord.cmp g.met.N.Name.exact c.args.named.now (c.get_mut.follows.lender c.push.new.self) c.args.name.now c.push.new.self
    ((c.get_mut.follows.holds c.push.new.self).3 (is_some_found c.in-Some.numbers.now _ c.in-Some.ensures.value))
    (sym (ap numbers_of c.in-Some.ensures.value) ∙ sym c.in_err-push-in-Some.ensures.items) q)

pub returns-in_ok-push-in-Some-clause-ok : goal.returns-in_ok-push-in-Some-clause-ok
returns-in_ok-push-in-Some-clause-ok g c = λ q.
    numbers_put g.N.Ord.cmp g.met.N.Name.exact c.args.named.now (c.get_mut.follows.lender c.push.new.self) c.args.name.now c.push.new.self
    ((c.get_mut.follows.holds c.push.new.self).3 (is_some_found c.in-Some.numbers.now _ c.in-Some.ensures.value))
    c.in-Some.numbers.now.items c.args.number (sym (ap numbers_of c.in-Some.ensures.value)) c.in_ok-push-in-Some.ensures.items q

pub returns-in_ok-insert-in-None-clause-ok : goal.returns-in_ok-insert-in-None-clause-ok
returns-in_ok-insert-in-None-clause-ok g c = λ q.
    numbers_put g.N.Ord.cmp g.met.N.Name.exact c.args.named.now c.insert.new.self c.args.name.now c.in_ok-numbers-in-None.numbers
    (rw (c.in_ok-share-in-None.ensures, c.get_mut.follows.holds-at-none) at c.in_ok-insert-in-None.ensures.updates)
    [] c.args.number (sym (ap numbers_of c.in-None.ensures.value)) c.in_ok-numbers-in-None.ensures.items q
