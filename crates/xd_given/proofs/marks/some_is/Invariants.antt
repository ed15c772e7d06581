use Rattle.std.proofs.Common.{◌≡◌, false, take}
use Rattle.xd_bind.specs.Projection.{has_track}
use Rattle.xd_given.proofs.marks.some_is.Given as goal

abbrev pub invariant-loop-track : goal.invariant-loop-track
invariant-loop-track l = has_track (take l.track-index l.tracks) l.variable l.kind l.state l.number ≡ false
