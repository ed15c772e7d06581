-- The second text of goals is a proof text, and spells these goals.
use Rattle.std.specs.Prelude.{◌≡◌, ◌↔◌, ℕ, ◌≤◌, true, false, List, length, Option, Some, None}
use Rattle.std.specs.List.{AllByRecursion}
use Rattle.xd_syntax.specs.Tree.{Tree, uses_only}
use Rattle.xd_syntax.specs.Proper.{IsProperTree}
use Rattle.xd_syntax.specs.Shallow.{nesting_limit}
use Rattle.xd_syntax.specs.TypeDepth.{depth}
use Rattle.xd_rules.specs.Rules.{Case}
use Rattle.xd_meaning.specs.Consistent.{Goal}
use Rattle.xd_meaning.specs.Violation.{Lined, goals_of}
use Rattle.xd_laws.specs.SameTree.{same_tree}
use Rattle.xd_type_laws.specs.ReadBackLaws.{IsMerged}
use Rattle.xd_proof.specs.Lines.{IsNumber}
use Rattle.xd_proof.specs.Parts.{IsAtom, HasNumbers}
use Rattle.xd_proof.specs.TypeTexts.{SpellsType}
use Rattle.xd_proof.specs.Form.{IsProofText}
use Rattle.xd_proof_write.specs.SecondText.{types_of, distinct_types, second_text_of}

-- a type over these names, no deeper than texts may be nested
pub record IsWritable (known : List (List ℕ)) (T : Tree) : Type 0 where
  pub names : uses_only known T ≡ true
  pub shallow : depth T ≤ nesting_limit

-- a type as every table has its types
pub record IsTableType (T : Tree) : Type 0 where
  pub merged : IsMerged T
  pub proper : IsProperTree false T

pub record IsWritableCase (c : Case) : Type 0 where
  pub head : IsNumber c.head
  pub atom : IsAtom c.atom
  pub choice : HasNumbers c.choice

abbrev pub IsWritableNumber : Option ℕ → Type 0
IsWritableNumber None = Unit {0}
IsWritableNumber (Some n) = IsNumber n

pub record IsWritableGoal (g : Goal) : Type 0 where
  pub empty_right : IsWritableNumber g.empty_right
  pub cases : AllByRecursion IsWritableCase g.cases

-- goals that a proof text can spell: one or more, and no number that is too long, that of the goals
-- and of their types included
pub record AreWritable (known : List (List ℕ)) (gs : List Goal) : Type 0 where
  pub types : AllByRecursion (IsWritable known) (types_of gs)
  pub goals : AllByRecursion IsWritableGoal gs
  pub goal_count : IsNumber (length gs)
  pub type_count : IsNumber (length (distinct_types gs))

-- the bytes are a proof text of these goals, wherever their lines stand
pub record SpellsGoals (known : List (List ℕ)) (bytes : List ℕ) (gs : List Goal) : Type 0 where
  pub lined : List Lined
  pub text : IsProofText (SpellsType known) bytes lined
  pub same : goals_of lined ≡ gs

abbrev pub SecondTextsReadBack : Type 0
SecondTextsReadBack = (known : List (List ℕ)) (gs : List Goal) → AreWritable known gs → AllByRecursion IsTableType (types_of gs) → SpellsGoals known (second_text_of gs) gs

-- Types that are told from one another are those that differ.
abbrev pub SameTypesAreEqual : Type 0
SameTypesAreEqual = (T U : Tree) → (same_tree T U ≡ true) ↔ (T ≡ U)
