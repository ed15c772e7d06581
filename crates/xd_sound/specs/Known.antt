-- What is known of a program's types.
use Rattle.std.specs.Prelude.{List, Option}
use Rattle.std.specs.Option.{IfSome}
use Rattle.xd_syntax.specs.Table.{Row}
use Rattle.xd_syntax.specs.Kept.{ProgramTable, program_tree}
use Rattle.xd_syntax.specs.RecursionFaults.{IsSound}
use Rattle.xd_sound.specs.TypeNames.{AreNumbered}
use Rattle.xd_sound.specs.Emptiness.{AreEmptyMarks, AreEmptySoFar}
use Rattle.xd_syntax.specs.declared.types.TypeDef.{TypeDef}
use Rattle.xd_sound.specs.declared.known.KnownTypes.{KnownTypes}

-- the names of these definitions are numbered, and of each node it is marked whether the empty
-- document fits it
pub record AreKnownTypes (types : List Row) (ds : List TypeDef) (k : KnownTypes) : Type 0 where
  pub numbered : AreNumbered k.names ds
  pub marked : AreEmptyMarks types ds k.empty_marks.items

abbrev pub AreKnown : ProgramTable → KnownTypes → Type 0
AreKnown p k = AreKnownTypes p.types p.type_defs k

-- the same, where the newest nodes may still have no mark
pub record AreKnownSoFar (types : List Row) (ds : List TypeDef) (k : KnownTypes) : Type 0 where
  pub numbered : AreNumbered k.names ds
  pub marked : AreEmptySoFar types ds k.empty_marks.items

-- a sound program, and what is known of its types so far, if it was asked for
pub record IsSoundAndKnown (p : ProgramTable) (k : Option KnownTypes) : Type 0 where
  pub sound : IsSound (program_tree p)
  pub known : IfSome k (AreKnownSoFar p.types p.type_defs)
