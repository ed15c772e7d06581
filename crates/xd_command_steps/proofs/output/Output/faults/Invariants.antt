use Rattle.std.proofs.Common.{◌≡◌, [], take}
use Rattle.std.specs.Prelude.{flat_map}
use Rattle.xd_report.specs.Report.{fault_text}
use Rattle.xd_command_steps.proofs.output.Output.faults.Given as goal

abbrev pub invariant-loop-fault : goal.invariant-loop-fault
invariant-loop-fault l = l.text.items ≡ flat_map (fault_text []) (take l.fault-index l.faults)
