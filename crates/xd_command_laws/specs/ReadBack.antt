-- That the definitions of types that `minus`, `types` and `precise` write read back to types that
-- just the documents fit which they are to show.
use Rattle.std.specs.Prelude.{◌≡◌, ◌↔◌, ℕ, true, List, [], Some, slice_get}
use Rattle.xd_show_blocks.specs.Blocks.{VariableBlock, IsBlockOf, shown_text}
use Rattle.xd_doc.specs.Document.{Document, is_proper}
use Rattle.xd_prefer.specs.Preferred.{Prefers}
use Rattle.xd_shown.specs.Shown.{defined_names}
use Rattle.xd_syntax.specs.Fits.{Fits}
use Rattle.xd_syntax.specs.May.{MayBind}
use Rattle.xd_syntax.specs.Program.{ProgramTree, names_of}
use Rattle.xd_syntax.specs.Tree.{Tree, Name}
use Rattle.xd_parse_trees.specs.Means.{BytesSpellProgram}
use Rattle.xd_variables.specs.Seen.{Gives, Reading, SeenVariable}
use Rattle.xd_command_steps.specs.Output.{Output}
use Rattle.xd_command_inclusions.specs.Minus.{AnswersDifference}
use Rattle.xd_inclusion.specs.Inclusion.{FitsAlone}

-- The text spells a program of definitions of types alone, and of proper documents just those of
-- the set fit the first.
pub record SpellsTypesOf (D : Document → Type 0) (text : List ℕ) : Type 0 where
  pub program : ProgramTree
  pub start : List ℕ
  pub spelled : BytesSpellProgram text program
  pub types_only : program.functions ≡ []
  pub first : slice_get (defined_names program) 0 ≡ Some start
  pub exact : (d : Document) → is_proper d ≡ true → Fits (names_of program) (Name start) d ↔ D d

abbrev pub DifferencesReadBack : Type 0
DifferencesReadBack = (P : ProgramTree) (L R : Tree) (o : Output) → AnswersDifference P L R o → SpellsTypesOf (FitsAlone (names_of P) L R) o.text

-- so do those of a block
abbrev pub BlockReadsBack : Reading → Type 0
BlockReadsBack B = (P : ProgramTree) (v : SeenVariable) (b : VariableBlock) → IsBlockOf B P v b → SpellsTypesOf (Gives B P v) (shown_text b.program)

abbrev pub BlocksReadBack : Type 0
BlocksReadBack = BlockReadsBack MayBind × BlockReadsBack Prefers
