-- The heads of goals.
use Rattle.std.specs.Prelude.{List, flat_map, ◌∷◌, []}
use Rattle.std.specs.List.{AllZip}
use Rattle.xd_syntax.specs.Table.{Row}
use Rattle.xd_syntax.specs.Tree.{Definitions}
use Rattle.xd_syntax.specs.Types.{tree}
use Rattle.xd_syntax.specs.declared.types.TypeId.{TypeId}
use Rattle.xd_meaning.specs.Heads.{heads}
use Rattle.xd_moves.specs.Cells.{Cell}
use Rattle.xd_heads.specs.Numbered.{IsHeadIn}
use Rattle.xd_heads.specs.declared.lister.NumberedHead.{NumberedHead}
use Rattle.xd_proof.specs.declared.proof.ProofGoal.{ProofGoal}
use Rattle.xd_proof_check.specs.declared.heads.GoalHeads.{GoalHeads}

-- they are the heads of these types, one list after the other
abbrev pub AreHeadsOf : List Row → List Cell → Definitions → List TypeId → List NumberedHead → Type 0
AreHeadsOf types cells E ids made = AllZip (IsHeadIn types cells) made (flat_map (λ (id : TypeId). heads E (tree types id)) ids)

-- they are those of the goal's left and of its rights
pub record AreGoalHeads (types : List Row) (cells : List Cell) (E : Definitions) (goal : ProofGoal) (made : GoalHeads) : Type 0 where
  pub left : AreHeadsOf types cells E (goal.left ∷ []) made.left.items
  pub rights : AreHeadsOf types cells E goal.rights.items made.rights.items
