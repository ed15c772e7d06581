-- How deep the types of a proof are.
use Rattle.std.specs.Prelude.{◌≤◌, List}
use Rattle.std.specs.List.{AllByRecursion}
use Rattle.xd_syntax.specs.Table.{Row}
use Rattle.xd_syntax.specs.Types.{tree}
use Rattle.xd_syntax.specs.Shallow.{nesting_limit}
use Rattle.xd_syntax.specs.TypeDepth.{depth}
use Rattle.xd_proof.specs.declared.proof.ProofGoal.{ProofGoal}

-- no type of the goal is deeper than a text may be nested
pub record IsShallowGoal (types : List Row) (goal : ProofGoal) : Type 0 where
  pub left : depth (tree types goal.left) ≤ nesting_limit
  pub rights : AllByRecursion (λ id. depth (tree types id) ≤ nesting_limit) goal.rights.items
