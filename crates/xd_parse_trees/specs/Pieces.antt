-- What was read, before a node is made of it.
use Rattle.std.specs.Prelude.{◌≡◌, ℕ, ◌≤◌, List, [], ◌∷◌, map, length}
use Rattle.std.specs.List.{AllByRecursion}
use Rattle.xd_base.specs.declared.Place.{Place}
use Rattle.xd_syntax.specs.Table.{Row, IsSeqPart, IsAltPart}
use Rattle.xd_syntax.specs.Placed.{PlacedTree, placed_seq, placed_alt, place_of}
use Rattle.xd_syntax.specs.PlacedTable.{placed_at}
use Rattle.xd_parse_trees.specs.declared.parts.Parts.{Parts}
use Rattle.xd_parse_trees.specs.declared.parts.Parts.TheVariants.{One, Sequence, Alternative}

-- the parts as numbers of nodes
pub data Pieces : Type 0 where
  in_row : Place → List ℕ → Pieces
  in_choice : Place → List ℕ → Pieces

abbrev pub pieces : {I : Type 0} → (I → ℕ) → Parts I → Pieces
pieces at (One p i) = in_row p (at i ∷ [])
pieces at (Sequence p parts) = in_row p (map at parts.items)
pieces at (Alternative p parts) = in_choice p (map at parts.items)

-- the tree that they are
abbrev pub tree_of : List Row → Pieces → PlacedTree
tree_of rows (in_row p is) = placed_seq p (map (placed_at rows) is)
tree_of rows (in_choice p is) = placed_alt p (map (placed_at rows) is)

-- the place of the first of these trees
abbrev pub first_place : Place → List PlacedTree → Place
first_place p [] = p
first_place p (T ∷ Ts) = place_of T

-- one part alone is a branch too
abbrev pub IsBranchAlone : List Row → List ℕ → Type 0
IsBranchAlone rows (i ∷ []) = IsAltPart rows i
IsBranchAlone rows is = Unit {0}

-- Their nodes are there, and one node can be made of them.
abbrev pub Stand : List Row → Pieces → Type 0
Stand rows (in_row p is) = AllByRecursion (IsSeqPart rows) is × IsBranchAlone rows is × (first_place p (map (placed_at rows) is) ≡ p)
Stand rows (in_choice p is) = (2 ≤ length is) × AllByRecursion (IsAltPart rows) is
