use Rattle.std.proofs.Common.{subst}
use Rattle.xd_show_solve.specs.Levels.{ArePlaced}
use Rattle.xd_same_types.proofs.Ids.{on_map}
use Rattle.xd_show_solve.proofs.PlaceLaws.{all_placed_stay}
use Rattle.xd_show_solve.proofs.places.see_rests.Goals as goal

pub returns-clause-labels : goal.returns-clause-labels
returns-clause-labels c =
    on_map c.see_texts.result _ _
    (λ k. all_placed_stay _ _ _ k (subst (ArePlaced c.see_labels.new.level.places.items) c.label_moves.ensures.value c.in_ok-see_labels.ensures.placed))
    c.see_texts.ensures.keeps
