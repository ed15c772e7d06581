-- Variables of a pattern with the places of their words, as they are found.
use Rattle.std.specs.Prelude.{List, map}
use Rattle.xd_base.specs.declared.Place.{Place}
use Rattle.xd_syntax.specs.NameFaults.{Spot, spot}
use Rattle.xd_variables.specs.declared.binders.Binder.{Binder}

abbrev pub spot_of : Binder → Spot
spot_of b = spot b.variable b.place

abbrev pub spots_of : List Binder → List Spot
spots_of bs = map spot_of bs

abbrev pub place_of_spot : Spot → Place
place_of_spot s = s.place
