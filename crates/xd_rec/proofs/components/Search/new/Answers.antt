use Rattle.std.proofs.Common.{◌+◌, ap, ◌∙◌}
use Rattle.xd_rec.proofs.DoneLemmas.{unseen_more, all_unseen}
use Rattle.xd_rec.proofs.components.Search.new.Goals as goal

pub loop-preserved : goal.loop-preserved
loop-preserved c =
    let e = c.in_ok-push.ensures.items in
    record {
      count = c.in_ok-push.ensures.len ∙ ap (λ n. n + 1) c.loop.invariant.count;
      none = λ v. (rw e (all_unseen c.loop.standing.items c.loop.invariant.none v));
      all = rw e (unseen_more c.loop.standing.items ∙ ap (λ n. n + 1) c.loop.invariant.all);
    }
