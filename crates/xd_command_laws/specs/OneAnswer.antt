-- That the same words and the same texts have one answer, but where the definitions leave a choice.
use Rattle.std.specs.Prelude.{◌≡◌, ◌⊎◌, ◌↔◌, ℕ, true, List, ◌++◌, Option, Some, None, slice_get}
use Rattle.xd_base.specs.Outside.{HasRisen}
use Rattle.xd_show_blocks.specs.Blocks.{VariableBlock, blocks_text, shown_text}
use Rattle.xd_doc.specs.Document.{Document, is_proper, size}
use Rattle.xd_shown.specs.Shown.{defined_names}
use Rattle.xd_syntax.specs.CheckFaults.{Line}
use Rattle.xd_syntax.specs.Fits.{Fits as FitsIn}
use Rattle.xd_syntax.specs.Program.{ProgramTree, names_of}
use Rattle.xd_syntax.specs.Tree.{Name, Tree}
use Rattle.xd_type_laws.specs.DefinitionsText.{type_definitions}
use Rattle.xd_type_laws.specs.ReadsBack.{AreReadBack}
use Rattle.xd_meaning.specs.KeptFaults.{AllPaired}
use Rattle.xd_laws.specs.SameLines.{IsSameLine}
use Rattle.xd_inclusion.specs.Inclusion.{ProvesInclusion}
use Rattle.xd_command.specs.declared.command.Command.{Command}
use Rattle.xd_command.specs.declared.command.Command.TheVariants.{Subtype, Minus, Least, Check, Types, Precise, Run}
use Rattle.xd_command.specs.Answer.{IsAnswer}
use Rattle.xd_command.specs.Outcome.{IsOutcome}
use Rattle.xd_command_programs.specs.Report.{lines_text}
use Rattle.xd_command_steps.specs.Output.{Output, canonical, separated}
use Rattle.xd_command_steps.specs.Laws.{Texts, IsRead}

-- ---- what may differ

-- both are proof texts of one inclusion
pub record ProveAlike (o p : Output) : Type 0 where
  pub program : ProgramTree
  pub left : Tree
  pub right : Tree
  pub status : o.status ≡ 0
  pub other_status : p.status ≡ 0
  pub proves : ProvesInclusion program left right o.text
  pub other_proves : ProvesInclusion program left right p.text

-- both write a document in this way, and the documents have one size
abbrev pub CarryAlike : (Document → Output) → Output → Output → Type 0
CarryAlike form o p = (d : Document) × (e : Document) × (size d ≡ size e) × (o ≡ form d) × (p ≡ form e)

-- both list faults, which are the same but for the documents that they carry
pub record FaultsAlike (o p : Output) : Type 0 where
  pub refused : o.status ≡ 1
  pub other_refused : p.status ≡ 1
  pub lines : List Line
  pub others : List Line
  pub same : AllPaired IsSameLine lines others
  pub text : o.text ≡ lines_text lines
  pub other : p.text ≡ lines_text others

-- The texts of both programs read back, and of proper documents the same ones fit the first names
-- of both.
pub record ShowTheSame (P : ProgramTree) (start : List ℕ) (Q : ProgramTree) (other_start : List ℕ) : Type 0 where
  pub reads_back : AreReadBack (type_definitions P)
  pub other_reads_back : AreReadBack (type_definitions Q)
  pub first : slice_get (defined_names P) 0 ≡ Some start
  pub other_first : slice_get (defined_names Q) 0 ≡ Some other_start
  pub same : (d : Document) → is_proper d ≡ true → FitsIn (names_of P) (Name start) d ↔ FitsIn (names_of Q) (Name other_start) d

-- both write definitions of types that show the same documents
pub record ShowAlike (o p : Output) : Type 0 where
  pub status : o.status ≡ 0
  pub other_status : p.status ≡ 0
  pub program : ProgramTree
  pub start : List ℕ
  pub other_program : ProgramTree
  pub other_start : List ℕ
  pub same : ShowTheSame program start other_program other_start
  pub text : o.text ≡ shown_text program
  pub other : p.text ≡ shown_text other_program

-- blocks of one variable that show the same documents
pub record IsSameBlock (b c : VariableBlock) : Type 0 where
  pub place : b.place ≡ c.place
  pub variable : b.variable ≡ c.variable
  pub same : ShowTheSame b.program b.start c.program c.start

-- both write blocks, one for one of the same variables, that show the same documents
pub record BlocksAlike (o p : Output) : Type 0 where
  pub status : o.status ≡ 0
  pub other_status : p.status ≡ 0
  pub blocks : List VariableBlock
  pub others : List VariableBlock
  pub same : AllPaired IsSameBlock blocks others
  pub text : o.text ≡ blocks_text blocks
  pub other : p.text ≡ blocks_text others

-- Outputs of one command that are the same, or differ in a proof text, in the document of a
-- separation, in a least document, in the documents that faults carry, or in how definitions of
-- types show documents.
abbrev pub MayDiffer : Command → Output → Output → Type 0
MayDiffer (Subtype file left right) o p = ProveAlike o p ⊎ CarryAlike separated o p
MayDiffer (Minus file left right) o p = ShowAlike o p
MayDiffer (Least file name) o p = CarryAlike canonical o p
MayDiffer (Check file) o p = FaultsAlike o p
MayDiffer (Types file) o p = FaultsAlike o p ⊎ BlocksAlike o p
MayDiffer (Precise file) o p = FaultsAlike o p ⊎ BlocksAlike o p
MayDiffer (Run file document fuel) o p = FaultsAlike o p
MayDiffer command o p = ⊥

abbrev pub AreAlike : Option Command → Output → Output → Type 0
AreAlike None o p = o ≡ p
AreAlike (Some command) o p = (o ≡ p) ⊎ MayDiffer command o p

-- ---- the laws

-- two outputs that the same words and texts have are alike, and of one status
pub record AreOneAnswer (command : Option Command) (o p : Output) : Type 0 where
  pub status : o.status ≡ p.status
  pub alike : AreAlike command o p

abbrev pub AnswersAreOne : Type 0
AnswersAreOne = (command : Option Command) (texts : Texts) (o p : Output) → IsAnswer command (Some texts) ⊥ o → IsAnswer command (Some texts) ⊥ p → AreOneAnswer command o p

-- An output that isn't of status 3 for the reason that a count rose is one that the texts have
-- whatever the count did.
abbrev pub CountsHideAnswers : Type 0
CountsHideAnswers = (command : Option Command) (texts : Texts) (before after : ℕ) (o : Output) →
    IsRead (HasRisen before after) o → IsAnswer command (Some texts) (HasRisen before after) o → IsAnswer command (Some texts) ⊥ o

-- what a call comes to, where shelf and sink tell and no count of their faults rose in it
pub record IsPlainOutcome (command : Option Command) (texts : Texts) (before after : List ℕ) (code : ℕ) : Type 0 where
  pub shelf_before : ℕ
  pub shelf_after : ℕ
  pub sink_before : ℕ
  pub sink_after : ℕ
  pub outcome : IsOutcome command (Some texts) (HasRisen shelf_before shelf_after) (HasRisen sink_before sink_after) (Some before) (Some after) code
  pub shelf_well : HasRisen shelf_before shelf_after → ⊥
  pub sink_well : HasRisen sink_before sink_after → ⊥

-- nothing is written: memory ran out
abbrev pub WritesNothing : (before after : List ℕ) → (code : ℕ) → Type 0
WritesNothing before after code = (code ≡ 5) × (after ≡ before)

-- the output is written whole, with its status
abbrev pub WritesWhole : Output → (before after : List ℕ) → (code : ℕ) → Type 0
WritesWhole o before after code = (code ≡ o.status) × (after ≡ before ++ o.text)

-- two such calls, of the same words and texts, write outputs that are alike, if none of them wants
-- memory
abbrev pub OutcomesAreOne : Type 0
OutcomesAreOne = (command : Option Command) (texts : Texts) (before after begun ended : List ℕ) (code other : ℕ) →
    IsPlainOutcome command texts before after code → IsPlainOutcome command texts begun ended other →
    WritesNothing before after code ⊎ (WritesNothing begun ended other
    ⊎ ((o : Output) × (p : Output) × AreOneAnswer command o p × WritesWhole o before after code × WritesWhole p begun ended other))
