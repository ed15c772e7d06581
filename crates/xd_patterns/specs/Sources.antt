-- The program that pieces are of.
use Rattle.std.specs.Prelude.{List}
use Rattle.xd_syntax.specs.Table.{Row}
use Rattle.xd_syntax.specs.Tree.{Definitions}
use Rattle.xd_syntax.specs.declared.types.TypeDef.{TypeDef}
use Rattle.xd_sound.specs.TypeNames.{meanings}
use Rattle.xd_laws.specs.Guarded.{Guarded}
use Rattle.xd_pattern_runs.specs.Linear.{BindNothing}
use Rattle.xd_continuations.specs.Bodies.{AreBodies}
use Rattle.xd_continuations.specs.declared.bodies.TypeBodies.{TypeBodies}
use Rattle.xd_patterns.specs.Tasks.{Tables}
use Rattle.xd_patterns.specs.declared.sources.Sources.{Sources}

abbrev pub tables : Sources → Tables
tables s = record { types = s.types.now; patterns = s.patterns.now }

abbrev pub names_in : Sources → Definitions
names_in s = meanings s.types.now s.defs.now

-- definitions are guarded and bind nothing, and each name has its node
pub record AreDefined (types : List Row) (ds : List TypeDef) (nodes : TypeBodies) : Type 0 where
  pub guarded : Guarded (meanings types ds)
  pub none : BindNothing (meanings types ds)
  pub bodies : AreBodies types ds nodes

abbrev pub IsDefined : Sources → Type 0
IsDefined s = AreDefined s.types.now s.defs.now s.bodies.now
