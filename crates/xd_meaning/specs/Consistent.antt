-- Proofs of inclusions: goals that rest on one another, and the rules that they keep.
-- (The rules are those by which TOPLAS 2005 decides inclusion; written down as a text they are this
-- project's own.)
use Rattle.std.specs.Prelude.{◌≡◌, ℕ, true, false, List, map, flat_map, Option, Some, None}
use Rattle.std.specs.List.{AllByRecursion}
use Rattle.xd_syntax.specs.Tree.{Tree, Definitions}
use Rattle.xd_rules.specs.Heads.{Head}
use Rattle.xd_rules.specs.Rules.{Claim, Case, CaseRule, head_atom, numbered, wanted}
use Rattle.xd_meaning.specs.CanBeEmpty.{can_be_empty}
use Rattle.xd_meaning.specs.Heads.{heads}
use Rattle.xd_meaning.specs.Included.{Included}

-- It claims that every document that fits the left fits one of the rights. `empty_right` is the
-- number of a right.
pub record Goal : Type 0 where
  pub left : Tree
  pub rights : List Tree
  pub empty_right : Option ℕ
  pub cases : List Case

-- what a goal claims
abbrev pub claim_of : Goal → Claim Tree
claim_of g = record { left = g.left; rights = g.rights }

-- the claims of goals, by number
abbrev pub claims : List Goal → ℕ → Option (Claim Tree)
claims goals = numbered (map claim_of goals)

-- the right heads of a goal: those of its rights, one list after the other
abbrev pub right_heads : Definitions → Goal → List (Head Tree)
right_heads E g = flat_map (heads E) g.rights

-- No right is named only where the left cannot be empty; else the left can be, and so can the right
-- with this number.
abbrev pub EmptyRule : Definitions → Goal → Option ℕ → Type 0
EmptyRule E g None = can_be_empty E g.left ≡ false
EmptyRule E g (Some n) =
    (can_be_empty E g.left ≡ true)
    × (T : Tree) × (numbered g.rights n ≡ Some T) × (can_be_empty E T ≡ true)

-- The rules of a goal: on the empty document; one case for each left head and each of its atoms, in
-- order, and no other; and the trees of the cases.
pub record KeepsRules (E : Definitions) (goals : List Goal) (g : Goal) : Type 0 where
  pub empty : EmptyRule E g g.empty_right
  pub cases : map head_atom g.cases ≡ wanted (heads E g.left) (right_heads E g)
  pub trees : AllByRecursion (CaseRule (claims goals) (heads E g.left) (right_heads E g)) g.cases

-- every goal keeps the rules
abbrev pub IsConsistent : Definitions → List Goal → Type 0
IsConsistent E gs = AllByRecursion (KeepsRules E gs) gs

-- what a goal claims holds
abbrev pub ClaimHolds : Definitions → Goal → Type 0
ClaimHolds E g = Included E g.left g.rights
