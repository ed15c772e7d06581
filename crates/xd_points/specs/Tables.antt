-- Points that are kept from call to call, with the states that accept what they mean.
use Rattle.std.specs.Prelude.{◌≡◌, ℕ, ◌<◌, Bool, not, ◌&&◌, List, [], length, Option, Some, None, slice_get}
use Rattle.xd_doc.specs.Document.{Document}
use Rattle.xd_auto.specs.declared.auto.State.{State}
use Rattle.xd_auto.specs.Automaton.{Automaton, Extends, IsClosed, accepts}
use Rattle.xd_empty.specs.Known.{Knows}
use Rattle.xd_boole.specs.Meaning.{any_accepts}
use Rattle.xd_points.specs.declared.patterns.PatternStates.{PatternStates}
use Rattle.xd_points.specs.declared.table.PointTable.{PointTable}
use Rattle.xd_points.specs.Placing.{AreIn, accepts_at, place_at, state_of}
use Rattle.xd_points.specs.Points.{AreExpanded, RowView, is_old, meaning, point_at}

-- the left accepts the document, the pattern's state does, and none of the rights does
abbrev pub takes_alone : Automaton → PatternStates → State → State → List State → Document → Bool
takes_alone a b left pattern rights d = accepts a d left && (accepts b.auto d pattern && not (any_accepts b.auto rights d))

-- whether runs through the points are first runs of the pattern alone
abbrev pub of_first_runs : PointTable → Bool
of_first_runs t = t.first

-- the automaton of the points: a state for each, with the moves by which its parts go on
abbrev pub points_of : PointTable → Automaton
points_of t = t.points.made

abbrev pub point_count : PointTable → ℕ
point_count t = length t.points.points.items

-- the left of a point, and its pattern's state
abbrev pub left_of : PointTable → State → State
left_of t s = (point_at t.points.points.items s.number).left

abbrev pub pattern_of : PointTable → State → State
pattern_of t s = (point_at t.points.points.items s.number).pattern

-- whether the point means what its left accepts, and has no moves of its own
abbrev pub is_left : PatternStates → PointTable → State → Bool
is_left b t s = is_old b t.points s.number

-- whether the point means the document
abbrev pub point_means : Automaton → PatternStates → PointTable → State → Document → Bool
point_means a b t s d = meaning a b t.points s.number d

-- the state that accepts what the point means, where it means anything
abbrev pub place_of : PointTable → State → Option State
place_of t s = state_of (place_at t.places.items s.number)

-- the number of the pattern's move that a point's move stands for
abbrev pub number_or : Option ℕ → ℕ
number_or None = 0
number_or (Some n) = n

abbrev pub labels_in : Option RowView → List ℕ
labels_in None = []
labels_in (Some row) = row.labels

abbrev pub texts_in : Option RowView → List ℕ
texts_in None = []
texts_in (Some row) = row.texts

abbrev pub label_origin : PointTable → State → ℕ → ℕ
label_origin t s n = number_or (slice_get (labels_in (slice_get t.rows.items s.number)) n)

abbrev pub text_origin : PointTable → State → ℕ → ℕ
text_origin t s n = number_or (slice_get (texts_in (slice_get t.rows.items s.number)) n)

-- Each point of the table has its moves and a place, where it is accepted what the point means; and
-- of which of them any document is known is known.
pub record IsTableOf (a : Automaton) (b : PatternStates) (t : PointTable) : Type 0 where
  pub expanded : AreExpanded t.first a b t.points t.rows.items
  pub every : length t.rows.items ≡ length t.points.points.items
  pub known : Knows t.points.made t.store t.known
  pub count : length t.places.items ≡ length t.points.points.items
  pub belong : AreIn a t.places.items
  pub stands : (d : Document) (i : ℕ) → i < length t.points.points.items → accepts_at a d (state_of (place_at t.places.items i)) ≡ meaning a b t.points i d

-- a table goes on to be one while the automaton of the lefts extends
abbrev pub TablesStay : Type 0
TablesStay = (old new : Automaton) (b : PatternStates) (t : PointTable) → IsClosed old → Extends old new → IsTableOf old b t → IsTableOf new b t
