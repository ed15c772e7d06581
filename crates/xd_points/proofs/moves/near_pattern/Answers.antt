use Rattle.std.proofs.Common.{refl}
use Rattle.xd_points.proofs.moves.near_pattern.Goals as goal

pub returns-then-is_marked-2 : goal.returns-then-is_marked-2
returns-then-is_marked-2 c = record { taken = λ q e. refl; all = λ p h. h }
