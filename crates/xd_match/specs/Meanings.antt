-- What the names of a program's types stand for.
use Rattle.std.specs.Prelude.{◌≡◌}
use Rattle.xd_syntax.specs.Program.{names_of}
use Rattle.xd_syntax.specs.Kept.{ProgramTable, program_tree}
use Rattle.xd_sound.specs.TypeNames.{meanings}
use Rattle.xd_continuations.specs.Bodies.{AreBodies}
use Rattle.xd_match.specs.declared.meanings.Meanings.{Meanings}

-- over these types the program's definitions mean what they mean in the program, and each name has
-- its node
pub record Means (p : ProgramTable) (m : Meanings) : Type 0 where
  pub names : meanings m.types p.type_defs ≡ names_of (program_tree p)
  pub bodies : AreBodies m.types p.type_defs m.bodies
