use Rattle.xd_show_solve.specs.Levels.{ArePlacesOfNone}
use Rattle.xd_show_solve.proofs.places.no_places.Given as goal

abbrev pub invariant-loop-number : goal.invariant-loop-number
invariant-loop-number l = ArePlacesOfNone l.made.items l._number
