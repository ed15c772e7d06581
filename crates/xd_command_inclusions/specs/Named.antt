-- The types that two names stand for.
use Rattle.std.specs.Prelude.{◌≡◌, ℕ, List, []}
use Rattle.xd_syntax.specs.Program.{ProgramTree}
use Rattle.xd_syntax.specs.Sound.{type_named}
use Rattle.xd_syntax.specs.SoundTables.{IsTypeAt}
use Rattle.xd_syntax.specs.Table.{Row}
use Rattle.xd_syntax.specs.declared.types.TypeId.{TypeId}
use Rattle.xd_command_inclusions.specs.Subtype.{undefined_names}

-- both names are defined, and these are the types that they name
pub record AreNamed (P : ProgramTree) (types : List Row) (left right : List ℕ) (ids : TypeId × TypeId) : Type 0 where
  pub defined : undefined_names P left right ≡ []
  pub one : IsTypeAt types (type_named left) ids.0
  pub other : IsTypeAt types (type_named right) ids.1
