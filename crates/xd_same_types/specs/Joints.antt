-- Alternatives that are joined.
use Rattle.std.specs.Prelude.{◌≡◌, ◌<◌, List, length, get_or}
use Rattle.xd_syntax.specs.Table.{Row, IsAltPart, tree_at}
use Rattle.xd_syntax.specs.Tree.{Alt}
use Rattle.xd_syntax.specs.declared.types.TypeId.{TypeId}
use Rattle.xd_same_types.specs.Same.{MeansSame}
use Rattle.xd_same_types.specs.declared.alts.Joint.{Joint}

-- one type for the alternative at the place and the next one
pub record IsJoint (old : List Row) (parts : List TypeId) (next : TypeId) (new : List Row) (j : Joint) : Type 0 where
  pub within : j.place < length parts
  pub same : (o : TypeId) → o ≡ get_or parts j.place o → MeansSame (tree_at new j.one.at) (Alt (tree_at old o.at) (tree_at old next.at))
  pub part : IsAltPart new j.one.at
