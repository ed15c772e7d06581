-- Points while the automaton of their lefts extends.
use Rattle.std.specs.Prelude.{◌≡◌, Bool, List}
use Rattle.xd_doc.specs.Document.{Document}
use Rattle.xd_auto.specs.Automaton.{Automaton, Extends, IsClosed}
use Rattle.xd_points.specs.declared.patterns.PatternStates.{PatternStates}
use Rattle.xd_points.specs.declared.points.Points.{Points}
use Rattle.xd_points.specs.Meaning.{IsPointOf, PointView, ServePoints, means}
use Rattle.xd_points.specs.Points.{AreExpanded, RowView}

-- patterns that serve points with lefts in an automaton serve those with lefts in each that extends
-- it
abbrev pub ServingStays : Type 0
ServingStays = (old new : Automaton) (t : PatternStates) → IsClosed old → Extends old new → ServePoints old t → ServePoints new t

-- points with their moves stay points with their moves
abbrev pub ExpandedStays : Type 0
ExpandedStays = (old new : Automaton) (t : PatternStates) (p : Points) (first : Bool) (rows : List RowView) → IsClosed old → Extends old new → AreExpanded first old t p rows → AreExpanded first new t p rows

-- a point means there what it did
abbrev pub MeaningsStay : Type 0
MeaningsStay = (old new : Automaton) (t : PatternStates) (p : PointView) (d : Document) → IsClosed old → Extends old new → IsPointOf old t p → means new t p d ≡ means old t p d
