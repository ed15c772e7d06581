-- Cases in the order of the heads of a type.
use Rattle.std.specs.Prelude.{◌≡◌, ℕ, ◌+◌, ◌<◌, ◌≤◌, Bool, true, false, List, [], ◌∷◌, ◌++◌}
use Rattle.std.specs.List.{AllByRecursion, AllZip}
use Rattle.xd_rules.specs.Rules.{Case, ChoiceTree, settles_content, settles_rest, split_on}
use Rattle.xd_rules.specs.Meaning.{AllLeaves}
use Rattle.xd_goals.specs.Trees.{StandsAt}
use Rattle.xd_goals.specs.declared.table.Choice.{Choice}
use Rattle.xd_goals.specs.declared.table.ChoiceNode.{ChoiceNode}
use Rattle.xd_proof.specs.Parts.{IsAtom}
use Rattle.xd_proof.specs.Cases.{IsCase}
use Rattle.xd_proof.specs.declared.cases.ReadCase.{ReadCase}
use Rattle.xd_proof.specs.declared.steps.Step.{Step}
use Rattle.xd_proof.specs.declared.steps.Step.TheVariants.{Content, Rest, Split}
use Rattle.xd_proof_make.specs.Written.{written_tree}
use Rattle.xd_proof_make.specs.Places.{place_in}
use Rattle.xd_proof_make.specs.Met.{number_in}

abbrev pub BeginsAt : ℕ → List Choice → Type 0
BeginsAt bound [] = Unit {0}
BeginsAt bound (k ∷ ks) = bound ≤ k.head

-- the choices before the first whose head has at least this number, and the others
pub record IsCut (bound : ℕ) (whole front back : List Choice) : Type 0 where
  pub same : whole ≡ front ++ back
  pub below : AllByRecursion (λ (k : Choice). k.head < bound) front
  pub above : BeginsAt bound back

-- a choice as a case of the head with this number
pub record IsCaseOf (nodes : List ChoiceNode) (places numbers : List ℕ) (n : ℕ) (k : Choice) (c : Case) : Type 0 where
  pub head : c.head ≡ n
  pub atom : c.atom ≡ k.atom
  pub tree : ChoiceTree
  pub stands : StandsAt nodes k.root tree
  pub choice : c.choice ≡ written_tree (place_in places) (number_in numbers) tree

-- Cases of heads of these sorts, of which the first has the number n: of the elements, whose
-- numbers in the table go on from l, with those choices, and of the texts, from t.
abbrev pub AreOrdered : List ChoiceNode → List ℕ → List ℕ → List Bool → (n l t : ℕ) → (elements texts : List Choice) → List Case → Type 0
AreOrdered nodes places numbers [] n l t ls ts cs = cs ≡ []
AreOrdered nodes places numbers (false ∷ ss) n l t ls ts cs =
    (front : List Choice) × (back : List Choice) × (here : List Case) × (later : List Case) × IsCut (l + 1) ls front back × AllZip (IsCaseOf nodes places numbers n) front here × (cs ≡ here ++ later)
    × AreOrdered nodes places numbers ss (n + 1) (l + 1) t back ts later
AreOrdered nodes places numbers (true ∷ ss) n l t ls ts cs =
    (front : List Choice) × (back : List Choice) × (here : List Case) × (later : List Case) × IsCut (t + 1) ts front back × AllZip (IsCaseOf nodes places numbers n) front here × (cs ≡ here ++ later)
    × AreOrdered nodes places numbers ss (n + 1) l (t + 1) ls back later

-- the choices of a goal whose left has so many elements among its heads, as cases
pub record AreWrittenCases (nodes : List ChoiceNode) (places numbers : List ℕ) (sorts : List Bool) (elements : ℕ) (choices : List Choice) (made : List ReadCase) : Type 0 where
  pub front : List Choice
  pub back : List Choice
  pub cut : IsCut (elements + 1) choices front back
  pub cases : List Case
  pub read : AllZip IsCase made cases
  pub atoms : AllByRecursion (λ (c : Case). IsAtom c.atom) cases
  pub ordered : AreOrdered nodes places numbers sorts 1 1 (elements + 1) front back cases

-- the case that was made is one of a choice
pub record IsMadeOf (nodes : List ChoiceNode) (places numbers : List ℕ) (n : ℕ) (k : Choice) (made : ReadCase) : Type 0 where
  pub case : Case
  pub of_choice : IsCaseOf nodes places numbers n k case
  pub read : IsCase made case
  pub atom : IsAtom case.atom

-- the numbers in a tree's splits are from 1 to n
abbrev pub SplitsWithin : ℕ → ChoiceTree → Type 0
SplitsWithin n (settles_content g) = Unit {0}
SplitsWithin n (settles_rest g) = Unit {0}
SplitsWithin n (split_on j a b) = (0 < j) × (j ≤ n) × SplitsWithin n a × SplitsWithin n b

-- the choice has a tree whose leaves name goals of the table, and whose splits right heads
pub record IsWritable (nodes : List ChoiceNode) (goals heads : ℕ) (k : Choice) : Type 0 where
  pub tree : ChoiceTree
  pub stands : StandsAt nodes k.root tree
  pub leaves : AllLeaves (λ g. g < goals) tree
  pub splits : SplitsWithin heads tree

abbrev pub IsStepWithin : (goals heads : ℕ) → Step → Type 0
IsStepWithin goals heads (Content g) = g < goals
IsStepWithin goals heads (Rest g) = g < goals
IsStepWithin goals heads (Split j) = (0 < j) × (j ≤ heads)

-- the step with a proof's numbers
abbrev pub written_step : (places numbers : List ℕ) → Step → Step
written_step places numbers (Content g) = Content (number_in numbers g)
written_step places numbers (Rest g) = Rest (number_in numbers g)
written_step places numbers (Split j) = Split (place_in places j)
