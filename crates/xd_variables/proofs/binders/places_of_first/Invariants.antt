use Rattle.std.proofs.Common.{◌≡◌, ◌++◌, drop, map}
use Rattle.xd_syntax.specs.Matches.{first_spots}
use Rattle.xd_variables.specs.Binders.{spots_of, place_of_spot}
use Rattle.xd_variables.proofs.BinderLemmas.{still_first}
use Rattle.xd_variables.proofs.binders.places_of_first.Given as goal

abbrev pub invariant-loop-binder : goal.invariant-loop-binder
invariant-loop-binder l =
    l.places.items ++ map place_of_spot (still_first l.seen.keys (spots_of (drop l.binder-index l.binders))) ≡ map place_of_spot (first_spots (spots_of l.binders))
