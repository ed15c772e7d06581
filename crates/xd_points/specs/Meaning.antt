-- What a state of an automaton of points stands for: a state that must accept, one of a pattern
-- that must accept too, and states of patterns that must refuse.
use Rattle.std.specs.Prelude.{◌≡◌, ◌<◌, ◌≤◌, Bool, not, ◌&&◌, ◌||◌, ◌==◌, List, nat_eq, nat_lt, length}
use Rattle.xd_doc.specs.Document.{Document}
use Rattle.xd_auto.specs.declared.auto.State.{State}
use Rattle.xd_auto.specs.Automaton.{Automaton, IsState, accepts}
use Rattle.xd_empty.specs.Parts.{is_marked}
use Rattle.xd_boole.specs.Meaning.{TellSame, any_accepts}
use Rattle.xd_boole.specs.Universal.{MarkUniversal}
use Rattle.std.specs.List.{AllByRecursion}
use Rattle.xd_points.specs.declared.patterns.PatternStates.{PatternStates}

pub record PointView : Type 0 where
  pub left : State
  pub pattern : State
  pub rights : List State

abbrev pub point : State → State → List State → PointView
point left pattern rights = record { left = left; pattern = pattern; rights = rights }

-- the left accepts the document, the pattern's state does, and none of the rights does: of the
-- states with like ones made one, which accept the same
abbrev pub means : Automaton → PatternStates → PointView → Document → Bool
means a b p d = accepts a d p.left && (accepts b.auto d p.pattern && not (any_accepts b.taken.auto p.rights d))

-- The patterns serve points with lefts in this automaton: like states are made one without a change
-- of what they accept, move by move, states that are marked accept everything, and the first
-- states, as many as are shared, accept in both automata the same.
pub record ServePoints (a : Automaton) (b : PatternStates) : Type 0 where
  pub count : length b.taken.auto ≡ length b.auto
  pub same : (d : Document) (s : State) → accepts b.taken.auto d s ≡ accepts b.auto d s
  pub moves : TellSame b.auto b.taken.auto
  pub universal : MarkUniversal b.taken.auto b.taken.universal.items
  pub within : b.shared ≤ length a
  pub shared : (d : Document) (s : State) → s.number < b.shared → accepts a d s ≡ accepts b.auto d s

-- the states of the point belong to their automata
pub record IsPointOf (a : Automaton) (b : PatternStates) (p : PointView) : Type 0 where
  pub left : IsState a p.left
  pub pattern : IsState b.auto p.pattern
  pub rights : AllByRecursion (IsState b.taken.auto) p.rights

-- whether the state may be left out: where nothing must refuse, nobody asks by which of its moves
-- items are taken
abbrev pub may_leave_out : PatternStates → State → Bool
may_leave_out b s = is_marked b.left_out.items s

-- nothing must refuse, and the pattern's state, which may be left out, takes everything or is the
-- left itself: the point means what its left accepts
abbrev pub is_old_point : PatternStates → PointView → Bool
is_old_point b p = (length p.rights == 0)
    && (may_leave_out b p.pattern && (is_marked b.taken.universal.items p.pattern || (nat_lt p.pattern.number b.shared && nat_eq p.left.number p.pattern.number)))
