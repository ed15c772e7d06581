-- The goals of a proof, one after the other.
use Rattle.std.specs.Prelude.{◌≡◌, ℕ, ◌<◌, ◌≤◌, Bool, false, not, ◌&&◌, List, length, Option, Some, None}
use Rattle.std.specs.List.{AllByRecursion, AllZip}
use Rattle.xd_syntax.specs.Tree.{Definitions}
use Rattle.xd_syntax.specs.Table.{Row, tree_at}
use Rattle.xd_meaning.specs.CanBeEmpty.{can_be_empty}
use Rattle.xd_sound.specs.Emptiness.{is_marked}
use Rattle.xd_syntax.specs.declared.types.TypeId.{TypeId}
use Rattle.xd_meaning.specs.Consistent.{Goal}
use Rattle.xd_rules.specs.Rules.{numbered}
use Rattle.xd_laws.proofs.FirstWrong.{Refusal}
use Rattle.xd_heads.specs.declared.lister.NumberedHead.{NumberedHead}
use Rattle.xd_proof.specs.declared.proof.ProofGoal.{ProofGoal}
use Rattle.xd_moves.specs.Cells.{Cell}
use Rattle.xd_proof.specs.Kept.{AreTrees}
use Rattle.xd_proof_check.specs.Corresponds.{IsClaimAt, Knows}
use Rattle.xd_proof_check.specs.Leaves.{GoalsBelong}
use Rattle.xd_moves.specs.Codes.{number_at}
use Rattle.xd_proof_check.specs.Reasons.{reason_of}
use Rattle.xd_proof_check.specs.declared.check.Violation.{Violation}
use Rattle.xd_proof_check.specs.declared.check.Sheet.{Sheet}
use Rattle.xd_proof_check.specs.declared.heads.GoalHeads.{GoalHeads}
use Rattle.xd_proof_check.specs.declared.path.Path.{Path}
use Rattle.xd_proof_check.specs.declared.verdict.ProofVerdict.{ProofVerdict}
use Rattle.xd_proof_check.specs.declared.verdict.ProofVerdict.TheVariants.{Accepted, Refused}

pub record SheetView : Type 0 where
  pub goals : List ProofGoal
  pub numbers : List ℕ

abbrev pub sheet_of : Sheet → SheetView
sheet_of s = record { goals = s.goals.now; numbers = s.numbers.now }

-- these are the goals of a proof, and the numbers tell their types apart
pub record Stands (types : List Row) (cells : List Cell) (gs : List Goal) (s : SheetView) : Type 0 where
  pub numbers : Knows types cells s.numbers
  pub goals : AllZip (IsClaimAt types) s.goals gs

-- the marks say of each type whether it can be empty
abbrev pub MarksDecide : List Row → Definitions → List Bool → Type 0
MarksDecide types E marks = (i : ℕ) → i < length types → is_marked marks i ≡ can_be_empty E (tree_at types i)

abbrev pub violation_of : Violation → Refusal
violation_of b = (b.line, reason_of b.reason)

abbrev pub right_marked : List Bool → Option TypeId → Bool
right_marked marks None = false
right_marked marks (Some id) = is_marked marks id.at

abbrev pub empty_marked_by : List Bool → ProofGoal → Option ℕ → Bool
empty_marked_by marks g None = not (is_marked marks g.left.at)
empty_marked_by marks g (Some n) = is_marked marks g.left.at && right_marked marks (numbered g.rights.items n)

-- the rule on the empty document holds, by marks
abbrev pub empty_marked : List Bool → ProofGoal → Bool
empty_marked marks g = empty_marked_by marks g g.empty_right

-- content and rest have their places in the marks of a path
abbrev pub PartsFit : Path → NumberedHead → Type 0
PartsFit p h = (h.content < length p.content.items) × (h.rest < length p.rest.items)

-- all types have their places, and the right heads
pub record GoalFits (s : SheetView) (g : ProofGoal) (h : GoalHeads) (p : Path) : Type 0 where
  pub belong : GoalsBelong (length s.numbers) s.goals
  pub rights : AllByRecursion (PartsFit p) h.rights.items
  pub on_content : (i : ℕ) → number_at s.numbers i < length p.content.items
  pub on_rest : (i : ℕ) → number_at s.numbers i < length p.rest.items
  pub split : length h.rights.items ≤ length p.split.items
  pub trees : AreTrees g

abbrev pub verdict_of : ProofVerdict → Option Refusal
verdict_of Accepted = None
verdict_of (Refused line reason) = Some (line, reason_of reason)
