use Rattle.std.proofs.Common.{rules}
use Rattle.std.proofs.lemmas.List.Sorted.{answers_always}
use Rattle.xd_check_steps.proofs.Ranks.{found_rank, sorted_by_rank}
use Rattle.xd_check_steps.proofs.lines.sort_lines.Goals as goal

pub returns : goal.returns
returns c =
    let computes = answers_always _ _ _ (λ f a r g h. search rules) in
    sorted_by_rank _ _ (c.in_ok-sort_by_key.ensures.sorted found_rank computes) (c.sort_by_key.ensures.stable found_rank computes)
