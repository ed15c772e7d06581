use Rattle.std.proofs.Common.{◌≡◌, ℕ, ◌<◌, length, get_or}
use Rattle.xd_auto.specs.declared.auto.State.{State}
use Rattle.xd_points.specs.Tables.{place_of}
use Rattle.xd_given.specs.Blocks.{state_or}
use Rattle.xd_given.proofs.given.places_of.Given as goal

abbrev pub invariant-loop-number : goal.invariant-loop-number
invariant-loop-number l = (length l.places.items ≡ l.number) × ((x : ℕ) (d : State) → x < l.number → get_or l.places.items x d ≡ state_or l.nothing (place_of l.table (record { number = x })))
