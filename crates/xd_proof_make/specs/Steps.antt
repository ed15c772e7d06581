-- Choice trees of a table as steps, each tree before its parts, with the table's numbers.
use Rattle.std.specs.Prelude.{◌≡◌, ℕ, List, [], ◌∷◌, ◌++◌, Some, slice_get}
use Rattle.xd_rules.specs.Rules.{ChoiceTree, settles_content, settles_rest, split_on}
use Rattle.xd_goals.specs.Trees.{StandsAt}
use Rattle.xd_goals.specs.declared.table.ChoiceNode.{ChoiceNode}
use Rattle.xd_goals.specs.declared.table.ChoiceNode.TheVariants as nodes
use Rattle.xd_proof.specs.declared.steps.Step.{Step}
use Rattle.xd_proof.specs.declared.steps.Step.TheVariants.{Content, Rest, Split}

abbrev pub table_steps : ChoiceTree → List Step
table_steps (settles_content g) = Content g ∷ []
table_steps (settles_rest g) = Rest g ∷ []
table_steps (split_on j a b) = Split j ∷ (table_steps a ++ table_steps b)

-- a node's own step, and its parts, the first of them last
abbrev pub node_step : ChoiceNode → Step
node_step (nodes.Content g) = Content g.number
node_step (nodes.Rest g) = Rest g.number
node_step (nodes.Split j x y) = Split j

abbrev pub node_parts : ChoiceNode → List ℕ
node_parts (nodes.Content g) = []
node_parts (nodes.Rest g) = []
node_parts (nodes.Split j x y) = y ∷ x ∷ []

-- the node's step, and its parts put on the others
pub record IsOpened (nodes : List ChoiceNode) (n : ℕ) (step : Step) (old new : List ℕ) : Type 0 where
  pub node : ChoiceNode
  pub stands : slice_get nodes n ≡ Some node
  pub of_node : step ≡ node_step node
  pub grown : new ≡ old ++ node_parts node

-- a tree stands at the node
abbrev pub HasTree : List ChoiceNode → ℕ → Type 0
HasTree nodes root = (tree : ChoiceTree) × StandsAt nodes root tree
