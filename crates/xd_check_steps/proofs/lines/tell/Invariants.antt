use Rattle.xd_check_steps.proofs.FoundLineLemmas.{AreTold}
use Rattle.xd_check_steps.proofs.lines.tell.Given as goal

abbrev pub invariant-loop-line : goal.invariant-loop-line
invariant-loop-line l = AreTold l.lines l.line-index l.faults.items l.warnings.items
