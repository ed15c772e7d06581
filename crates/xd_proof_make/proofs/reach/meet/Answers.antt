use Rattle.std.proofs.Common.{◌≡◌, ◌<◌, length, set, ap, refl, rules}
use Rattle.xd_proof_make.proofs.IsMetLemmas.{meets-one, met-set, met-read, unmet-read}
use Rattle.xd_proof_make.proofs.reach.meet.Goals as goal

pub returns-in_ok-push-clause-more : goal.returns-in_ok-push-clause-more
returns-in_ok-push-clause-more c =
    let e : c.len.result ≡ length c.push.new.self.items = search rules in
    meets-one c.args.met.now.order.items c.args.met.now.numbers.items c.args.goal c.push.new.self.items _
    (unmet-read c.args.met.now.numbers.items c.args.goal c.index.result.now c.requires c.index.ensures c.if-index-eq0.true) c.in_ok-push.ensures.items (ap (set c.args.met.now.numbers.items c.args.goal) e)

pub returns-in_ok-push-clause-ok : goal.returns-in_ok-push-clause-ok
returns-in_ok-push-clause-ok c =
    let some : 0 < c.len.result = search rules in
    met-set c.args.met.now.numbers.items c.args.goal c.len.result _ c.requires some refl

pub returns-else-index-eq0-clause-ok : goal.returns-else-index-eq0-clause-ok
returns-else-index-eq0-clause-ok c = met-read c.args.met.now.numbers.items c.args.goal c.index.result.now c.requires c.index.ensures c.if-index-eq0.false
