use Rattle.std.proofs.Common.{arith}
use Rattle.xd_points.proofs.patterns.PatternStates.new.Goals as goal

pub returns-clause-serve : goal.returns-clause-serve
returns-clause-serve c a =
    let t = c.in_ok-taken.ensures in
    record { count = t.count; same = t.same; moves = t.moves; universal = t.universal; within = omega arith; shared = λ d s lt. absurd (omega arith) }
