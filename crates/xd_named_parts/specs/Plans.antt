-- Plans of names.
use Rattle.std.specs.Prelude.{◌≡◌, ◌<◌, List, length, get_or}
use Rattle.std.specs.List.{AllByRecursion}
use Rattle.xd_syntax.specs.Table.{Row}
use Rattle.xd_syntax.specs.Types.{BelongsTo}
use Rattle.xd_syntax.specs.declared.types.TypeId.{TypeId}

-- the nodes that are named are there, and the first is the first definition's
pub record IsPlan (types : List Row) (bodies named : List TypeId) : Type 0 where
  pub belong : AllByRecursion (BelongsTo types) named
  pub some : 0 < length named
  pub first : (id : TypeId) → id ≡ get_or bodies 0 id → get_or named 0 id ≡ id
