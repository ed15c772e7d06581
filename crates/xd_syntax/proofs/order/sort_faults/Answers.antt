use Rattle.std.proofs.Common.{rules}
use Rattle.std.proofs.lemmas.List.Sorted.{answers_always}
use Rattle.xd_syntax.proofs.Ranks.{rank, sorted_by_rank}
use Rattle.xd_syntax.proofs.order.sort_faults.Goals as goal

pub returns : goal.returns
returns c =
    let computes = answers_always _ _ _ (λ f a r g h. search rules) in
    sorted_by_rank _ _ (c.in_ok-sort_by_key.ensures.sorted rank computes) (c.sort_by_key.ensures.stable rank computes)
