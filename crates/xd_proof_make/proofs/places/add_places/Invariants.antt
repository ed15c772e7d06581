use Rattle.std.proofs.Common.{◌≡◌, ◌++◌, take}
use Rattle.xd_proof_make.specs.Places.{new_numbers, numbers_of}
use Rattle.xd_proof_make.proofs.places.add_places.Given as goal

abbrev pub invariant-loop-index : goal.invariant-loop-index
invariant-loop-index l = new_numbers l.places.items ≡ new_numbers l.initial.places.items ++ numbers_of l.texts l.first (take l.index l.sorts)
