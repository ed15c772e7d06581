use Rattle.xd_check_steps.specs.Found.{found_in}
use Rattle.xd_check_steps.specs.Known.{IsKnown}
use Rattle.xd_check.proofs.FunctionLoop.{FunctionsLoop}
use Rattle.xd_check.proofs.checker.Checker.in_functions.Given as goal

abbrev pub invariant-loop-number : goal.invariant-loop-number
invariant-loop-number l = record {
  walk : FunctionsLoop l.self.sound l.initial.auto' l.auto' l.initial.store l.store (found_in l.initial.findings) (found_in l.findings) l.number;
  known : IsKnown l.auto' l.store l.findings.known;
}
