-- A law of the variables of a program's clauses.
use Rattle.std.specs.Prelude.{◌≡◌, List}
use Rattle.xd_syntax.specs.Program.{ProgramTree}
use Rattle.xd_variables.specs.Seen.{AreSeenVariables, SeenVariable}

-- a program has one list of them
abbrev pub SeenVariablesAreOne : Type 0
SeenVariablesAreOne = (P : ProgramTree) (vs ws : List SeenVariable) → AreSeenVariables P vs → AreSeenVariables P ws → vs ≡ ws
