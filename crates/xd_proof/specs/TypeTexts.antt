-- The types of a proof text: of the grammar of types, over known names.
use Rattle.std.specs.Prelude.{◌≡◌, ℕ, true, List}
use Rattle.xd_syntax.specs.Tree.{Tree, uses_only}
use Rattle.xd_syntax.specs.Placed.{PlacedTree, unplaced}
use Rattle.xd_parse_trees.specs.Means.{IsTypeText}

-- the bytes are the text of a type that, places aside, is this one, and each name that it uses is
-- among these
pub record SpellsType (known : List (List ℕ)) (bytes : List ℕ) (T : Tree) : Type 0 where
  pub placed : PlacedTree
  pub text : IsTypeText bytes placed
  pub same : unplaced placed ≡ T
  pub known_names : uses_only known T ≡ true
