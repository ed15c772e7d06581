-- What a walk over the program's functions knows.
use Rattle.xd_check_steps.specs.Clauses.{ServesOn}
use Rattle.std.specs.Prelude.{◌≡◌, ℕ, List, get_or}
use Rattle.xd_doc.specs.Document.{Document}
use Rattle.xd_auto.specs.Automaton.{Automaton}
use Rattle.xd_syntax.specs.Kept.{ProgramTable, function_definition, program_tree}
use Rattle.xd_syntax.specs.FunctionRow.{FunctionRow}
use Rattle.xd_syntax.specs.Program.{names_of}
use Rattle.xd_patterns.specs.Compiler.{Serves}
use Rattle.xd_clauses.specs.Compiled.{ArePatterns}
use Rattle.xd_check_steps.specs.Found.{AddsFound, Found}
use Rattle.xd_check_steps.specs.Signed.{AreSignatures}
use Rattle.xd_check.specs.Walked.{SeenInFunction}
use Rattle.xd_check.specs.declared.checker.Checker.{Checker}

pub record IsReady (c : Checker) (a : Automaton) : Type 0 where
  pub serves : Serves c.sound c.compiler
  pub patterns : ArePatterns (names_of (program_tree c.sound)) c.sound.patterns c.patterns
  pub points : ServesOn a c.patterns
  pub signatures : AreSignatures (program_tree c.sound) a c.signatures

-- what the function of this number has was added
abbrev pub AddsFoundOfFunction : ProgramTable → ℕ → Automaton → List Document → Found → Found → Type 0
AddsFoundOfFunction p n a ds old new = (f : FunctionRow) → f ≡ get_or p.functions n f → AddsFound p a ds (SeenInFunction (program_tree p) (function_definition p f)) old new
