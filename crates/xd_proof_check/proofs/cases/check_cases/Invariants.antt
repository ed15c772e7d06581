use Rattle.std.proofs.Common.{◌≡◌, ◌≤◌, ◌+◌, ◌++◌, ℕ, List, drop, length}
use Rattle.xd_syntax.specs.Table.{Row}
use Rattle.xd_syntax.specs.Tree.{Definitions}
use Rattle.xd_meaning.specs.Consistent.{Goal, right_heads}
use Rattle.xd_rules.specs.Heads.{named_in}
use Rattle.xd_rules.specs.Rules.{atoms_from, wanted}
use Rattle.xd_meaning.specs.Heads.{heads}
use Rattle.xd_laws.proofs.FirstWrong.{wrong_cases}
use Rattle.xd_moves.specs.Cells.{Cell}
use Rattle.xd_proof_check.specs.CaseWalk.{CasesFit, Meets, cases_of}
use Rattle.xd_proof_check.specs.Paths.{IsClear, KeepsRoom}
use Rattle.xd_proof_check.proofs.cases.check_cases.Given as goal

abbrev pub invariant-loop-left : goal.invariant-loop-left
invariant-loop-left l = record {
  fit : CasesFit (cases_of l.cases) l.path;
  clear : IsClear l.path;
  within : l.at ≤ length l.cases.cases.now;
  keeps : KeepsRoom l.initial.path l.path;
  found : (types : List Row) (cells : List Cell) (E : Definitions) (gs : List Goal) (g : Goal) (line : ℕ) → Meets types cells E gs g (cases_of l.cases) →
      wrong_cases E gs g line (wanted (heads E g.left) (right_heads E g)) g.cases
      ≡ wrong_cases E gs g (line + l.at) (atoms_from (named_in (heads E g.left ++ right_heads E g)) (l.left + 1) (drop l.left (heads E g.left))) (drop l.at g.cases);
}
