use Rattle.std.proofs.Common.{length}
use Rattle.xd_points.proofs.PlaceLemmas.{PlacesSoFar}
use Rattle.xd_points.proofs.placing.place_points.Given as goal

abbrev pub invariant-loop-number : goal.invariant-loop-number
invariant-loop-number l = PlacesSoFar l.fn.auto l.initial.auto' l.auto' l.points (length l.fn.places.items) l.places.items l.number
