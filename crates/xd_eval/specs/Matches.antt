-- The bindings of first matches in a program.
use Rattle.xd_syntax.specs.Program.{names_of}
use Rattle.xd_syntax.specs.Kept.{ProgramTable, program_tree}
use Rattle.xd_meaning.specs.Meaning.{Matcher}
use Rattle.xd_meaning.specs.Bindings.{first_bindings}
pub use Rattle.xd_match.specs.Matches.{environment_in, ScopeStands, AreBindings}

-- the bindings of a first match, one for each variable
abbrev pub matcher : ProgramTable → Matcher
matcher p = first_bindings (names_of (program_tree p))
