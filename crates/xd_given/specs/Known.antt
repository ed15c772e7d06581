-- What is known of the lefts of points.
use Rattle.std.specs.Prelude.{◌<◌, List, Option, length}
use Rattle.xd_doc.specs.Document.{Document}
use Rattle.xd_auto.specs.declared.auto.State.{State}
use Rattle.xd_auto.specs.Automaton.{Automaton}
use Rattle.xd_least.specs.Least.{Knows}
use Rattle.xd_least.specs.declared.document.LeastDocument.{LeastDocument}
use Rattle.xd_points.specs.declared.table.PointTable.{PointTable}
use Rattle.xd_points.specs.Tables.{left_of, point_count}

-- of each left a document that it accepts is known, or that it accepts none
pub record KnowsLefts (a : Automaton) (t : PointTable) (known : List (Option LeastDocument)) : Type 0 where
  pub documents : List Document
  pub knows : Knows a documents known
  pub lefts : (s : State) → s.number < point_count t → (left_of t s).number < length known
