use Rattle.std.proofs.Common.{rules}
use Rattle.std.proofs.lemmas.List.Sorted.{answers_always}
use Rattle.xd_scrutinees.proofs.ByPlace.{sorted_by_place}
use Rattle.xd_scrutinees.proofs.MetOrder.{met_place}
use Rattle.xd_scrutinees.proofs.matches.sort_matches.Goals as goal

pub returns : goal.returns
returns c =
    let computes = answers_always _ _ _ (λ f a r g h. search rules) in
    sorted_by_place met_place _ _ (c.in_ok-sort_by_key.ensures.sorted met_place computes) (c.sort_by_key.ensures.stable met_place computes)
