use Rattle.std.proofs.Common.{◌≡◌, ◌≤◌, ◌+◌, ◌++◌, ℕ, List, drop, length}
use Rattle.xd_syntax.specs.Table.{Row}
use Rattle.xd_syntax.specs.Tree.{Definitions}
use Rattle.xd_meaning.specs.Consistent.{Goal}
use Rattle.xd_rules.specs.Rules.{HeadAtom}
use Rattle.xd_laws.proofs.FirstWrong.{wrong_cases}
use Rattle.xd_moves.specs.Cells.{Cell}
use Rattle.xd_proof_check.specs.CaseWalk.{CasesFit, Meets, cases_of}
use Rattle.xd_proof_check.specs.Paths.{IsClear, KeepsRoom}
use Rattle.xd_proof_check.proofs.CaseLemmas.{wanted_of}
use Rattle.xd_proof_check.proofs.cases.head_cases.Given as goal

abbrev pub invariant-loop-atom : goal.invariant-loop-atom
invariant-loop-atom l = record {
  fit : CasesFit (cases_of l.cases) l.path;
  clear : IsClear l.path;
  within : l.at ≤ length l.cases.cases.now;
  keeps : KeepsRoom l.initial.path l.path;
  found : (types : List Row) (cells : List Cell) (E : Definitions) (gs : List Goal) (g : Goal) (line : ℕ) (ws : List HeadAtom) → Meets types cells E gs g (cases_of l.cases) →
      wrong_cases E gs g (line + l.initial.at) (wanted_of (l.left + 1) l.atom-items ++ ws) (drop l.initial.at g.cases)
      ≡ wrong_cases E gs g (line + l.at) (wanted_of (l.left + 1) (drop l.atom-index l.atom-items) ++ ws) (drop l.at g.cases);
}
