-- What compiles the patterns of a program: it knows what the names of types stand for.
use Rattle.std.specs.Prelude.{◌≡◌, ◌<◌, length}
use Rattle.xd_syntax.specs.Tree.{any_type}
use Rattle.xd_syntax.specs.Table.{tree_at}
use Rattle.xd_syntax.specs.Kept.{ProgramTable, AddsTypes, program_tree}
use Rattle.xd_sound.specs.TypeNames.{AreNumbered}
use Rattle.xd_patterns.specs.declared.compiler.PatternCompiler.{PatternCompiler}

-- it knows what the program's names stand for
pub record Serves (p : ProgramTable) (c : PatternCompiler) : Type 0 where
  pub any_there : c.bodies.any < length p.types
  pub any_is : tree_at p.types c.bodies.any ≡ any_type
  pub names : AreNumbered c.bodies.names p.type_defs

-- it goes on to serve the program while types are added
abbrev pub ServesStays : Type 0
ServesStays = (p q : ProgramTable) (c : PatternCompiler) → Serves p c → AddsTypes p q → program_tree q ≡ program_tree p → Serves q c
