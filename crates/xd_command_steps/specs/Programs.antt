-- The step that reads a program, up to its faults of names and of recursion.
use Rattle.std.specs.Prelude.{◌≡◌, ◌≢◌, ◌⊎◌, ℕ, List, [], ◌∷◌}
use Rattle.xd_syntax.specs.Program.{ProgramTree}
use Rattle.xd_syntax.specs.NameFaults.{name_faults}
use Rattle.xd_syntax.specs.RecursionFaults.{AreRecursionFaults, IsSound}
use Rattle.xd_syntax.specs.declared.fault.Fault.{Fault}
use Rattle.xd_grammar.specs.declared.grammar.Nonterminal.TheVariants as nonterminals
use Rattle.xd_parse.specs.Faults.{IsFirstTextFault}
use Rattle.xd_parse_trees.specs.Means.{IsProgramText}
use Rattle.xd_command_steps.specs.Output.{Output, fault_lines}
use Rattle.xd_command_steps.specs.Step.{Step}
use Rattle.xd_command_steps.specs.Texts.{Holding, EndsAtText, IsText, program_limit}

-- The faults of the first level that has any: the first fault of the text; all faults of names,
-- arity and linearity; all faults of recursion.
abbrev pub AreTextFaults : List ℕ → List Fault → Type 0
AreTextFaults text fs =
    ((f : Fault) × IsFirstTextFault nonterminals.Definitions text f × (fs ≡ f ∷ []))
    ⊎ ((P : ProgramTree) × IsProgramText text P × (
    ((fs ≡ name_faults P) × (fs ≢ []))
    ⊎ ((name_faults P ≡ []) × AreRecursionFaults P fs × (fs ≢ []))))

-- the text of this program, which has none of these faults
pub record IsSoundText (text : List ℕ) (P : ProgramTree) : Type 0 where
  pub spelled : IsProgramText text P
  pub sound : IsSound P

-- the text has faults, and these are listed
abbrev pub EndsAtFaults : (text : List ℕ) → Output → Type 0
EndsAtFaults text o = (fs : List Fault) × AreTextFaults text fs × (o ≡ fault_lines fs)

-- the file has no text of a program without these faults
abbrev pub EndsAtProgram : Holding → (rose : Type 0) → (file : List ℕ) → Output → Type 0
EndsAtProgram holds rose file o =
    EndsAtText holds rose file program_limit o
    ⊎ ((text : List ℕ) × IsText holds file program_limit text × EndsAtFaults text o)

-- the file has the text of this program
abbrev pub IsProgram : Holding → (file : List ℕ) → ProgramTree → Type 0
IsProgram holds file P = (text : List ℕ) × IsText holds file program_limit text × IsSoundText text P

-- how a command on the program of the file answers: by the faults of its text, or as `next` says of
-- the program
abbrev pub AnswersOn :
    Holding → (rose : Type 0) → (file : List ℕ) → (next : ProgramTree → Output → Type 0) → Output → Type 0
AnswersOn holds rose file next = Step (EndsAtProgram holds rose file) (IsProgram holds file) next
