-- How the status and what is written follow from the words and from what is outside.
use Rattle.std.specs.Prelude.{◌≡◌, ◌⊎◌, ℕ, true, List, [], ◌∷◌, Option, codes}
use Rattle.xd_base.specs.Outside.{HasGrown}
use Rattle.xd_syntax.specs.Program.{ProgramTree, names_of}
use Rattle.xd_syntax.specs.Sound.{is_defined, type_named}
use Rattle.xd_auto.specs.Automaton.{Automaton}
use Rattle.xd_auto.specs.declared.auto.State.{State}
use Rattle.xd_command_steps.specs.Output.{Output, IsSent}
use Rattle.xd_command_steps.specs.Programs.{EndsAtProgram, IsProgram}
use Rattle.xd_command_steps.specs.Texts.{Holding}
use Rattle.xd_command_documents.specs.Fits.{EndsAtName, FitsType}
use Rattle.xd_command_documents.specs.FitsByState.{IsAcceptor}
use Rattle.xd_validate.specs.Answers.{EndsAll}

-- the words are no call
abbrev pub usage : Output
usage = record { status = 2; text = codes "usage: xduce-validate FILE TYPE [DOCUMENT ..]\n" }

-- the documents that are asked for: the standard input where none is named
abbrev pub asked : List (List ℕ) → List (List ℕ)
asked [] = codes "-" ∷ []
asked (d ∷ ds) = d ∷ ds

-- the file has no program without faults, or that has no type of this name
abbrev pub EndsAtType : Holding → (rose : Type 0) → (file name : List ℕ) → Output → Type 0
EndsAtType holds rose file name o =
    EndsAtProgram holds rose file o
    ⊎ ((P : ProgramTree) × IsProgram holds file P × EndsAtName P name o)

-- the program of the file defines the type
abbrev pub IsDefiner : Holding → (file name : List ℕ) → ProgramTree → Type 0
IsDefiner holds file name P = IsProgram holds file P × (is_defined P name ≡ true)

-- the state accepts what fits the type of this name in the program
abbrev pub IsAcceptorIn : ProgramTree → (name : List ℕ) → Automaton → State → Type 0
IsAcceptorIn P name a s = (is_defined P name ≡ true) × IsAcceptor (names_of P) (type_named name) a s

-- in the program of this file
abbrev pub IsAcceptorOf : Holding → (file name : List ℕ) → Automaton → State → Type 0
IsAcceptorOf holds file name a s = (P : ProgramTree) × IsProgram holds file P × IsAcceptorIn P name a s

-- what is outside, before and after a run
pub record Outside : Type 0 where
  -- what the shelf of programs holds, and what the source of documents
  pub programs : Holding
  pub documents : Holding
  -- the count of the source's faults, before and after
  pub from : ℕ
  pub till : ℕ
  -- what is written, before and after
  pub before : Option (List ℕ)
  pub after : Option (List ℕ)

-- Memory ran out before the first document; or the type isn't there, and that is told; or the
-- documents are gone through.
abbrev pub IsOutcomeOn :
    Outside → (shelf_rose sink_rose : Type 0) → (file name : List ℕ) → (names : List (List ℕ)) → ℕ → Type 0
IsOutcomeOn w shelf_rose sink_rose file name names code =
    ((code ≡ 5) × HasGrown w.before w.after [])
    ⊎ (((o : Output) × EndsAtType w.programs shelf_rose file name o × IsSent o sink_rose w.before w.after code)
    ⊎ ((P : ProgramTree) × IsDefiner w.programs file name P
    × EndsAll (FitsType (names_of P) (type_named name)) w.documents w.from w.till sink_rose w.before w.after names code))

-- the same for all words
abbrev pub IsOutcome : Outside → (shelf_rose sink_rose : Type 0) → List (List ℕ) → ℕ → Type 0
IsOutcome w shelf_rose sink_rose (file ∷ name ∷ documents) code =
    IsOutcomeOn w shelf_rose sink_rose file name (asked documents) code
IsOutcome w shelf_rose sink_rose words code =
    ((code ≡ 5) × HasGrown w.before w.after []) ⊎ IsSent usage sink_rose w.before w.after code
