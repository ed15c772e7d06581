use Rattle.std.proofs.Common.{◌≡◌, drop}
use Rattle.xd_boole.specs.Meaning.{has_state}
use Rattle.xd_points.proofs.points.is_refused.Given as goal

abbrev pub invariant-loop-right : goal.invariant-loop-right
invariant-loop-right l = has_state l.state l.rights ≡ has_state l.state (drop l.right-index l.rights)
