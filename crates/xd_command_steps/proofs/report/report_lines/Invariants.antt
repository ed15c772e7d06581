use Rattle.std.proofs.Common.{◌+◌, length}
use Rattle.xd_command_steps.proofs.NextLineLemmas.{Carry, Leaves}
use Rattle.xd_command_steps.proofs.report.report_lines.Given as goal

abbrev pub invariant-loop-line : goal.invariant-loop-line
invariant-loop-line l = Carry l.store l.faults_left × Leaves l.store l.faults l.warnings l.text.items l.faults_left l.warnings_left

abbrev pub decreases-loop-line : goal.decreases-loop-line
decreases-loop-line l = length l.faults_left + length l.warnings_left
