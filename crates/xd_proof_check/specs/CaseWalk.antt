-- The cases of a goal, one after the other.
use Rattle.std.specs.Prelude.{◌≡◌, ℕ, ◌+◌, ◌<◌, ◌≤◌, List, map, length, drop, Option, Some, None}
use Rattle.std.specs.List.{AllByRecursion, AllZip}
use Rattle.xd_syntax.specs.Tree.{Definitions}
use Rattle.xd_syntax.specs.Table.{Row}
use Rattle.xd_meaning.specs.Heads.{heads}
use Rattle.xd_meaning.specs.Consistent.{Goal, right_heads}
use Rattle.xd_rules.specs.Rules.{HeadAtom}
use Rattle.xd_laws.proofs.FirstWrong.{Refusal, wrong_cases}
use Rattle.xd_moves.specs.Cells.{Cell}
use Rattle.xd_heads.specs.Numbered.{IsHeadIn}
use Rattle.xd_heads.specs.declared.lister.NumberedHead.{NumberedHead}
use Rattle.xd_proof.specs.declared.proof.ProofGoal.{ProofGoal}
use Rattle.xd_proof.specs.Cases.{IsCase, IsTree}
use Rattle.xd_proof.specs.declared.cases.ReadCase.{ReadCase}
use Rattle.xd_proof_check.specs.Corresponds.{IsClaimAt, Knows}
use Rattle.xd_proof_check.specs.Leaves.{GoalsBelong}
use Rattle.xd_moves.specs.Codes.{number_at}
use Rattle.xd_proof_check.specs.Reasons.{reason_of}
use Rattle.xd_proof_check.specs.declared.cases.Cases.{Cases}
use Rattle.xd_proof_check.specs.declared.cases.Progress.{Progress}
use Rattle.xd_proof_check.specs.declared.cases.Progress.TheVariants.{Behind, Broken}
use Rattle.xd_proof_check.specs.declared.path.Path.{Path}
use Rattle.xd_proof_check.specs.declared.verdict.Reason.{Reason}

pub record CasesView : Type 0 where
  pub goals : List ProofGoal
  pub numbers : List ℕ
  pub cases : List ReadCase
  pub left : List NumberedHead
  pub rights : List NumberedHead
  pub contents : List ℕ
  pub rests : List ℕ

abbrev pub cases_of : Cases → CasesView
cases_of c = record {
  goals = c.goals.now;
  numbers = c.numbers.now;
  cases = c.cases.now;
  left = c.left.now;
  rights = c.rights.now;
  contents = c.contents.now;
  rests = c.rests.now;
}

-- the cases are those of this goal of a proof, and the heads are its heads
pub record Meets (types : List Row) (cells : List Cell) (E : Definitions) (gs : List Goal) (g : Goal) (v : CasesView) : Type 0 where
  pub numbers : Knows types cells v.numbers
  pub goals : AllZip (IsClaimAt types) v.goals gs
  pub cases : AllZip IsCase v.cases g.cases
  pub left : AllZip (IsHeadIn types cells) v.left (heads E g.left)
  pub rights : AllZip (IsHeadIn types cells) v.rights (right_heads E g)

-- All types and right heads have their places in the marks of a path, the steps are those of trees,
-- and contents and rests are the right heads' numbers.
pub record CasesFit (v : CasesView) (p : Path) : Type 0 where
  pub belong : GoalsBelong (length v.numbers) v.goals
  pub trees : AllByRecursion IsTree v.cases
  pub on_content : (i : ℕ) → number_at v.numbers i < length p.content.items
  pub on_rest : (i : ℕ) → number_at v.numbers i < length p.rest.items
  pub contents_fit : (i : ℕ) → number_at v.contents i < length p.content.items
  pub rests_fit : (i : ℕ) → number_at v.rests i < length p.rest.items
  pub contents : v.contents ≡ map (λ (h : NumberedHead). h.content) v.rights
  pub rests : v.rests ≡ map (λ (h : NumberedHead). h.rest) v.rights
  pub split : length v.rights ≤ length p.split.items

-- what is wrong first on a line, or else after it
abbrev pub wrong_after : ℕ → Option Reason → Option Refusal → Option Refusal
wrong_after line None behind = behind
wrong_after line (Some r) behind = Some (line, reason_of r)

-- what is wrong first, where these cases are wanted after those that were looked at
abbrev pub wrong_behind : Definitions → List Goal → Goal → ℕ → Progress → List HeadAtom → Option Refusal
wrong_behind E gs g line (Behind next) ws = wrong_cases E gs g (line + next) ws (drop next g.cases)
wrong_behind E gs g line (Broken bad r) ws = Some (line + bad, reason_of r)

abbrev pub IsWithin : ℕ → Progress → Type 0
IsWithin n (Behind next) = next ≤ n
IsWithin n (Broken bad r) = bad ≤ n

-- it holds, unless a case is wrong
abbrev pub IsKept : Progress → Type 0 → Type 0
IsKept (Behind next) P = P
IsKept (Broken bad r) P = Unit {0}
