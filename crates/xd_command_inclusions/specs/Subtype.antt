-- What `subtype` answers, after the faults of the program.
use Rattle.std.specs.Prelude.{◌≡◌, ◌≢◌, ◌⊎◌, ℕ, cond, List, [], ◌∷◌, ◌++◌, None}
use Rattle.xd_doc.specs.Document.{Document}
use Rattle.xd_doc.specs.Least.{IsLeast}
use Rattle.xd_syntax.specs.Tree.{Tree}
use Rattle.xd_meaning.specs.Included.{Included}
use Rattle.xd_syntax.specs.Program.{ProgramTree, names_of}
use Rattle.xd_syntax.specs.Sound.{is_defined, type_named}
use Rattle.xd_syntax.specs.declared.fault.Fault.{Fault}
use Rattle.xd_syntax.specs.declared.fault.FaultKind.TheVariants.{NoSuchName}
use Rattle.xd_inclusion.specs.Inclusion.{FitsAlone, ProvesInclusion}
use Rattle.xd_command_steps.specs.Output.{Output, separated, fault_lines}

-- a fault where no type has this name
abbrev pub undefined : ProgramTree → (name : List ℕ) → List Fault
undefined P name = cond (is_defined P name) [] (record { place = None; kind = NoSuchName name } ∷ [])

-- the faults of both names, in order
abbrev pub undefined_names : ProgramTree → (left right : List ℕ) → List Fault
undefined_names P left right = undefined P left ++ undefined P right

-- no type has the one name or the other
abbrev pub EndsAtNames : ProgramTree → (left right : List ℕ) → Output → Type 0
EndsAtNames P left right o =
    (undefined_names P left right ≢ []) × (o ≡ fault_lines (undefined_names P left right))

-- the output is a least document of these, as one that separates
abbrev pub WritesLeast : (Document → Type 0) → Output → Type 0
WritesLeast In o = (d : Document) × IsLeast In d × (o ≡ separated d)

-- Every document of the first type is one of the second, and a proof of that is written; or a least
-- document of the first type alone is.
abbrev pub AnswersInclusion : ProgramTree → (left right : Tree) → Output → Type 0
AnswersInclusion P L R o =
    (Included (names_of P) L (R ∷ []) × (o.status ≡ 0) × ProvesInclusion P L R o.text)
    ⊎ WritesLeast (FitsAlone (names_of P) L R) o

-- of a program without faults: the names, and whether the one type is included in the other
abbrev pub AnswersSubtype : (left right : List ℕ) → ProgramTree → Output → Type 0
AnswersSubtype left right P o =
    EndsAtNames P left right o
    ⊎ ((undefined_names P left right ≡ []) × AnswersInclusion P (type_named left) (type_named right) o)
