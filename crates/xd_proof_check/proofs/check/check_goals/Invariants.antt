use Rattle.std.proofs.Common.{◌≡◌, List, drop}
use Rattle.xd_syntax.specs.Kept.{program_tree}
use Rattle.xd_syntax.specs.Program.{names_of}
use Rattle.xd_meaning.specs.Violation.{Lined, goals_of}
use Rattle.xd_laws.proofs.FirstWrong.{first_wrong, wrong_goals}
use Rattle.xd_heads.specs.Numbered.{Serves}
use Rattle.xd_proof.specs.Goals.{AreGoalsAt}
use Rattle.xd_proof_check.specs.Paths.{IsClear}
use Rattle.xd_proof_check.proofs.check.check_goals.Given as goal

abbrev pub invariant-loop-goal : goal.invariant-loop-goal
invariant-loop-goal l = record {
  serves : Serves l.program l.lister;
  clear : IsClear l.path;
  found : (ls : List Lined) → AreGoalsAt l.program.types l.goals ls →
      first_wrong (names_of (program_tree l.program)) ls ≡ wrong_goals (names_of (program_tree l.program)) (goals_of ls) (drop l.goal-index ls);
}
