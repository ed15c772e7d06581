-- What a leaf of a choice tree names, by the numbers of its types.
use Rattle.std.specs.Prelude.{ℕ, ◌<◌, Bool, false, ◌&&◌, nat_eq, List, Option, Some, None}
use Rattle.std.specs.List.{AllByRecursion, list_all, list_any}
use Rattle.xd_syntax.specs.declared.types.TypeId.{TypeId}
use Rattle.xd_proof.specs.declared.proof.ProofGoal.{ProofGoal}
use Rattle.xd_moves.specs.Codes.{number_at}

abbrev pub is_among : List ℕ → ℕ → Bool
is_among ns m = list_any (λ n. nat_eq n m) ns

-- the goal's left has this number, and each of its rights has one of those
abbrev pub leaf_numbered : List ℕ → ℕ → List ℕ → Option ProofGoal → Bool
leaf_numbered numbers left ns None = false
leaf_numbered numbers left ns (Some g) = nat_eq (number_at numbers g.left.at) left && list_all (λ (id : TypeId). is_among ns (number_at numbers id.at)) g.rights.items

-- the types of a goal are there
pub record GoalBelongs (count : ℕ) (g : ProofGoal) : Type 0 where
  pub left : g.left.at < count
  pub rights : AllByRecursion (λ (id : TypeId). id.at < count) g.rights.items

abbrev pub GoalsBelong : ℕ → List ProofGoal → Type 0
GoalsBelong count goals = AllByRecursion (GoalBelongs count) goals
