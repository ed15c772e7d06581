-- Choice trees as steps, each tree before its parts.
use Rattle.std.specs.Prelude.{◌≡◌, ℕ, ◌+◌, codes, List, [], ◌∷◌, ◌++◌, flat_map, length}
use Rattle.std.specs.List.{AllByRecursion}
use Rattle.xd_rules.specs.Rules.{ChoiceTree, settles_content, settles_rest, split_on}
use Rattle.xd_proof.specs.Lines.{SpellsNumber}
use Rattle.xd_proof.specs.Parts.{tree_words, HasNumbers}
use Rattle.xd_proof.specs.declared.steps.Step.{Step}
use Rattle.xd_proof.specs.declared.steps.Step.TheVariants.{Content, Rest, Split}

abbrev pub steps_of : ChoiceTree → List Step
steps_of (settles_content n) = Content n ∷ []
steps_of (settles_rest n) = Rest n ∷ []
steps_of (split_on n t u) = Split n ∷ (steps_of t ++ steps_of u)

abbrev pub step_letter : Step → List ℕ
step_letter (Content n) = codes "c"
step_letter (Rest n) = codes "r"
step_letter (Split n) = codes "?"

abbrev pub step_number : Step → ℕ
step_number (Content n) = n
step_number (Rest n) = n
step_number (Split n) = n

-- the words are those of so many trees, which have these steps
pub record SpellsSteps (count : ℕ) (words : List (List ℕ)) (steps : List Step) : Type 0 where
  pub trees : List ChoiceTree
  pub many : length trees ≡ count
  pub numbers : AllByRecursion HasNumbers trees
  pub spelled : flat_map tree_words trees ≡ words
  pub taken : flat_map steps_of trees ≡ steps

-- the first two words are this step, and these stand after it
pub record IsStep (words : List (List ℕ)) (step : Step) (rest : List (List ℕ)) : Type 0 where
  pub word : List ℕ
  pub stands : words ≡ step_letter step ∷ (word ∷ rest)
  pub number : SpellsNumber word (step_number step)

-- how many trees are to come after it, where besides the step's own tree so many were
abbrev pub wanted_after : Step → ℕ → ℕ
wanted_after (Content n) m = m
wanted_after (Rest n) m = m
wanted_after (Split n) m = m + 2
