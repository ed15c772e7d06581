-- Texts that show sets of documents as definitions of types. (This project's own rule.)
use Rattle.std.specs.Prelude.{◌≡◌, ℕ, List, [], ◌∷◌, ◌++◌, flat_map, codes}
use Rattle.std.specs.List.{AllZip}
use Rattle.xd_base.specs.declared.Place.{Place}
use Rattle.xd_doc.specs.Document.{Document}
use Rattle.xd_report.specs.Report.{place_front}
use Rattle.xd_shown.specs.Shown.{IsShown, defined_names}
use Rattle.xd_syntax.specs.Program.{ProgramTree}
use Rattle.xd_type_laws.specs.DefinitionsText.{type_definitions, definitions_text}
use Rattle.xd_type_laws.specs.ReadsBack.{AreReadBack}
use Rattle.xd_variables.specs.Seen.{AreSeenVariables, Gives, Reading, SeenVariable}

-- a line for each type that the program defines, in order
abbrev pub shown_text : ProgramTree → List ℕ
shown_text Q = definitions_text (type_definitions Q)

-- The program shows the set, by names that aren't taken, and its text reads back.
pub record Shows
    (D : Document → Type 0) (taken : List (List ℕ)) (Q : ProgramTree) (start : List ℕ) : Type 0 where
  pub shown : IsShown D taken Q start
  pub reads_back : AreReadBack (type_definitions Q)

-- the text is that of a program that shows the set
pub record IsShownText (D : Document → Type 0) (taken : List (List ℕ)) (text : List ℕ) : Type 0 where
  pub program : ProgramTree
  pub start : List ℕ
  pub shows : Shows D taken program start
  pub written : text ≡ shown_text program

-- a variable, the place of its word, and a program that shows what it may be
pub record VariableBlock : Type 0 where
  pub place : Place
  pub variable : List ℕ
  pub program : ProgramTree
  pub start : List ℕ

-- `LINE:COLUMN: variable WORD as START`, and the text of the program
abbrev pub block_text : VariableBlock → List ℕ
block_text b =
    place_front b.place ++ codes "variable " ++ b.variable ++ codes " as " ++ b.start ++ codes "\n"
    ++ shown_text b.program

-- one block after the other, or the line `no variables`
abbrev pub blocks_text : List VariableBlock → List ℕ
blocks_text [] = codes "no variables\n"
blocks_text (b ∷ bs) = flat_map block_text (b ∷ bs)

-- the block shows what the reading gives the variable, by names that no type of the program has
pub record IsBlockOf (B : Reading) (P : ProgramTree) (v : SeenVariable) (b : VariableBlock) : Type 0 where
  pub place : b.place ≡ v.place
  pub variable : b.variable ≡ v.variable
  pub shows : Shows (Gives B P v) (defined_names P) b.program b.start

-- the text has a block for each variable of the clauses of the program's matches, in order of place
pub record AreBlocks (B : Reading) (P : ProgramTree) (text : List ℕ) : Type 0 where
  pub variables : List SeenVariable
  pub all : AreSeenVariables P variables
  pub blocks : List VariableBlock
  pub each : AllZip (IsBlockOf B P) variables blocks
  pub written : text ≡ blocks_text blocks
