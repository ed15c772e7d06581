-- Laws of the telephone program: its text, its faults, and what it makes of persons.
use Rattle.std.specs.Prelude.{◌≡◌, ℕ, ◌+◌, List, []}
use Rattle.xd_syntax.specs.Placed.{unplaced}
use Rattle.xd_syntax.specs.Program.{ProgramTree, names_of}
use Rattle.xd_syntax.specs.Fits.{Fits}
use Rattle.xd_syntax.specs.RecursionFaults.{AreRecursionFaults, IsSound}
use Rattle.xd_syntax.specs.CheckFaults.{Line, AreLines}
use Rattle.xd_meaning.specs.Meaning.{Done, meaning}
use Rattle.xd_syntax.specs.declared.fault.Fault.{Fault}
use Rattle.xd_grammar.specs.declared.grammar.Nonterminal.TheVariants.{Definitions}
use Rattle.xd_parse.specs.Faults.{IsFirstTextFault}
use Rattle.xd_parse_trees.specs.Means.{IsProgramText}
use Rattle.xd_laws.specs.LineSamples.{persons_at}
use Rattle.xd_command_sample.specs.Telephones.{telephone_text, telephone_program}
use Rattle.xd_command_sample.specs.Persons.{sample_of, telephones_to}

-- The text is that of the program, and of no other. It has no fault: none of the text, none of
-- names, arity and linearity, none of recursion.
pub record TextIsRead : Type 0 where
  pub spelled : IsProgramText telephone_text telephone_program
  pub only : (P : ProgramTree) → IsProgramText telephone_text P → P ≡ telephone_program
  pub no_fault : (f : Fault) → IsFirstTextFault Definitions telephone_text f → ⊥
  pub sound : IsSound telephone_program
  pub no_recursion_fault : (fs : List Fault) → AreRecursionFaults telephone_program fs → fs ≡ []

-- It has no fault of matches, arguments and results either, and no warning.
pub record NothingIsReported : Type 0 where
  pub none : AreLines telephone_program []
  pub only : (ls : List Line) → AreLines telephone_program ls → ls ≡ []

-- Persons are an input, and the names and telephones of those that have one are the value, by a
-- call for each person and one for the end.
pub record TelephonesAreListed : Type 0 where
  pub inputs : (persons : ℕ) → Fits (names_of telephone_program) (unplaced persons_at) (sample_of persons)
  pub values : (persons : ℕ) → meaning telephone_program (persons + 1) (sample_of persons) ≡ Done (telephones_to persons) 0
