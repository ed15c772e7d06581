-- Laws of proof texts.
use Rattle.std.specs.Prelude.{◌≡◌, ◌↔◌, ◌⊎◌, ℕ, ◌<◌, codes, List, ◌∷◌, ◌++◌, length, Some}
use Rattle.xd_syntax.specs.Tree.{Tree}
use Rattle.xd_rules.specs.Rules.{Case}
use Rattle.xd_meaning.specs.Violation.{Lined}
use Rattle.xd_proof.specs.Lines.{IsCut, SpellsNumber}
use Rattle.xd_proof.specs.LineWords.{AreWords}
use Rattle.xd_proof.specs.Parts.{ProofLine, SpellsCase, SpellsPart, SpellParts}
use Rattle.xd_proof.specs.Form.{GoalBlock, goal_list, IsProofText, CanBegin, IsFirstBadLine}
use Rattle.xd_proof.specs.TypeTexts.{SpellsType}
use Rattle.xd_proof.specs.Course.{Course, at_count, at_end, along}

-- The course of lines follows exactly the lists of goals, and has these when they end.
abbrev pub CourseReads : Type 0 → Type 0
CourseReads A = (parts : List (ProofLine A)) (blocks : List (GoalBlock A)) → (along (Some at_count) parts ≡ Some (at_end blocks)) ↔ ((parts ≡ goal_list blocks) × (0 < length blocks))

-- It stands at a line exactly where a list of goals goes on from there (there is some type).
abbrev pub CourseGoesOn : Type 0 → Type 0
CourseGoesOn A = A → (parts : List (ProofLine A)) → ((c : Course A) × (along (Some at_count) parts ≡ Some c))
    ↔ ((more : List (ProofLine A)) × (blocks : List (GoalBlock A)) × (0 < length blocks) × (parts ++ more ≡ goal_list blocks))

-- A text is cut into lines in one way.
abbrev pub CutsAreOne : Type 0
CutsAreOne = (bytes : List ℕ) (lines others : List (List ℕ)) (left right : List ℕ) → IsCut bytes lines left → IsCut bytes others right →
    (lines ≡ others) × (left ≡ right)

-- What begins a proof text does so with fewer lines.
abbrev pub FrontsBegin : Type 0
FrontsBegin = (known : List (List ℕ)) (lines more : List (List ℕ)) → CanBegin (SpellsType known) (lines ++ more) → CanBegin (SpellsType known) lines

-- A text has one first bad line at most, and none where it is a proof text.
abbrev pub FirstBadLineIsOne : Type 0
FirstBadLineIsOne = (known : List (List ℕ)) (bytes : List ℕ) (n m : ℕ) → IsFirstBadLine (SpellsType known) bytes n → IsFirstBadLine (SpellsType known) bytes m → n ≡ m

-- Where some type has a text: lines begin a proof text of the first format exactly where each
-- spells a part that may stand there.
abbrev pub FirstFormatBegins : Type 0
FirstFormatBegins = (known : List (List ℕ)) (bytes : List ℕ) (T : Tree) → SpellsType known bytes T → (lines : List (List ℕ)) →
    CanBegin (SpellsType known) (codes "xduce-proof 1" ∷ lines)
    ↔ ((parts : List (ProofLine Tree)) × (c : Course Tree) × SpellParts (SpellsType known) (SpellsType known) lines parts × (along (Some at_count) parts ≡ Some c))

-- Any other first line but that of the second format begins none.
abbrev pub TitlesBegin : Type 0
TitlesBegin = (known : List (List ℕ)) (first : List ℕ) (lines : List (List ℕ)) → CanBegin (SpellsType known) (first ∷ lines) →
    (first ≡ codes "xduce-proof 1") ⊎ (first ≡ codes "xduce-proof 2")

-- A line has its words in one way.
abbrev pub WordsAreOne : Type 0
WordsAreOne = (line : List ℕ) (words others : List (List ℕ)) → AreWords line words → AreWords line others → words ≡ others

-- A line is that of one case at most.
abbrev pub CasesAreOne : Type 0
CasesAreOne = (line : List ℕ) (c d : Case) → SpellsCase line c → SpellsCase line d → c ≡ d

-- A text is a proof text with one list of goals at most, the lines of their parts too.
abbrev pub ProofTextsAreOne : Type 0
ProofTextsAreOne = (known : List (List ℕ)) (bytes : List ℕ) (goals others : List Lined) → IsProofText (SpellsType known) bytes goals → IsProofText (SpellsType known) bytes others → goals ≡ others

-- A line spells one part at most, in the first format and in the second.
pub record PartsAreOne : Type 0 where
  pub first : (known : List (List ℕ)) (line : List ℕ) (p q : ProofLine Tree) → SpellsPart (SpellsType known) (SpellsType known) line p → SpellsPart (SpellsType known) (SpellsType known) line q → p ≡ q
  pub second : (known : List (List ℕ)) (line : List ℕ) (p q : ProofLine ℕ) → SpellsPart (SpellsType known) SpellsNumber line p → SpellsPart (SpellsType known) SpellsNumber line q → p ≡ q
