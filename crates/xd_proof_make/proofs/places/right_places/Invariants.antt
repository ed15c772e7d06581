use Rattle.std.proofs.Common.{◌≡◌, map, take}
use Rattle.xd_proof_make.specs.Places.{all_places, new_numbers}
use Rattle.xd_proof_make.proofs.places.right_places.Given as goal

abbrev pub invariant-loop-sorts : goal.invariant-loop-sorts
invariant-loop-sorts l = new_numbers l.places.items ≡ all_places 1 (map (λ sorts. sorts.now) (take l.sorts-index l.rights))
