use Rattle.std.proofs.Common.{◌≡◌, ◌+◌, ◌∙◌, length, refl, rules, ap, sym}
use Rattle.xd_proof_make.specs.Places.{new_numbers}
use Rattle.xd_proof_make.proofs.AreHeadMovesLemmas.{placed_more, new_numbers-length}
use Rattle.xd_proof_make.proofs.places.right_places.Goals as goal

pub loop-sorts-preserved : goal.loop-sorts-preserved
loop-sorts-preserved c =
    let first : c.len-first.result + 1 ≡ length c.loop-sorts.places.items + 1 = search rules in
    placed_more (λ sorts. sorts.now) c.args.rights.now c.loop-sorts.sorts-index _ (new_numbers c.loop-sorts.places.items) (new_numbers c.add_places.new.places.items) (new_numbers c.add_places-in-loop-sorts.new.places.items) _ _
    c.loop-sorts-test.true c.loop-sorts.invariant (first ∙ ap (λ n. n + 1) (sym (new_numbers-length c.loop-sorts.places.items))) refl c.in_ok-add_places.ensures c.in_ok-add_places-2.ensures
