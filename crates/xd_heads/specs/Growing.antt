-- A program that gets more types.
use Rattle.std.specs.Prelude.{◌≡◌}
use Rattle.xd_syntax.specs.Kept.{ProgramTable, AddsTypes, program_tree}
use Rattle.xd_syntax.specs.ShallowTables.{IsShallow}

-- types alone are added, the program means what it meant, and a shallow one stays shallow
pub record GrowsTypes (old new : ProgramTable) : Type 0 where
  pub adds : AddsTypes old new
  pub same : program_tree new ≡ program_tree old
  pub shallow : IsShallow old.types → IsShallow new.types
