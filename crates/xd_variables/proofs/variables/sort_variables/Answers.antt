use Rattle.std.proofs.Common.{rules}
use Rattle.std.proofs.lemmas.List.Sorted.{answers_always}
use Rattle.xd_scrutinees.proofs.ByPlace.{sorted_by_place}
use Rattle.xd_variables.proofs.InOrder.{bound_place}
use Rattle.xd_variables.proofs.variables.sort_variables.Goals as goal

pub returns : goal.returns
returns c =
    let computes = answers_always _ _ _ (λ f a r g h. search rules) in
    sorted_by_place bound_place _ _ (c.in_ok-sort_by_key.ensures.sorted bound_place computes) (c.sort_by_key.ensures.stable bound_place computes)
