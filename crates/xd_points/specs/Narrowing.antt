-- Points that mean nothing, and points that mean what a smaller one does.
use Rattle.std.specs.Prelude.{Bool, cond, ◌&&◌, ◌||◌, ◌==◌, nat_lt, length}
use Rattle.xd_auto.specs.declared.auto.State.{State}
use Rattle.xd_empty.specs.Parts.{is_marked}
use Rattle.xd_boole.specs.Meaning.{has_state}
use Rattle.xd_points.specs.declared.patterns.PatternStates.{PatternStates}
use Rattle.xd_points.specs.Meaning.{PointView, may_leave_out}

-- the pattern's state must refuse, or the left, which both automata share
abbrev pub leaves_nothing : PatternStates → PointView → Bool
leaves_nothing b p = has_state p.pattern p.rights || (nat_lt p.left.number b.shared && has_state p.left p.rights)

-- nothing must refuse, the pattern's state, which may be left out, is shared, and the left, which
-- is shared, too, takes everything
abbrev pub narrows : PatternStates → PointView → Bool
narrows b p = (length p.rights == 0)
    && (may_leave_out b p.pattern && (nat_lt p.pattern.number b.shared && (nat_lt p.left.number b.shared && is_marked b.taken.universal.items p.left)))

-- then the pattern's state may be the left, too
abbrev pub narrowed_left : PatternStates → PointView → State
narrowed_left b p = cond (narrows b p) p.pattern p.left
