-- What `minus` answers, after the faults of the program.
use Rattle.std.specs.Prelude.{◌≡◌, ◌⊎◌, ℕ, List, []}
use Rattle.xd_show_blocks.specs.Blocks.{IsShownText}
use Rattle.xd_shown.specs.Shown.{defined_names}
use Rattle.xd_syntax.specs.Program.{ProgramTree, names_of}
use Rattle.xd_syntax.specs.Sound.{type_named}
use Rattle.xd_syntax.specs.Tree.{Tree}
use Rattle.xd_command_steps.specs.Output.{Output}
use Rattle.xd_inclusion.specs.Inclusion.{FitsAlone}
use Rattle.xd_command_inclusions.specs.Subtype.{EndsAtNames, undefined_names}

-- the text of definitions that show the documents of the first type alone, by names that no type of
-- the program has
abbrev pub AnswersDifference : ProgramTree → (left right : Tree) → Output → Type 0
AnswersDifference P L R o =
    (o.status ≡ 0) × IsShownText (FitsAlone (names_of P) L R) (defined_names P) o.text

-- of a program without faults: the names, and the difference of the types
abbrev pub AnswersMinus : (left right : List ℕ) → ProgramTree → Output → Type 0
AnswersMinus left right P o =
    EndsAtNames P left right o
    ⊎ ((undefined_names P left right ≡ []) × AnswersDifference P (type_named left) (type_named right) o)
