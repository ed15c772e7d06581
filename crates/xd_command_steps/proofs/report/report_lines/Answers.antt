use Rattle.std.proofs.Common.{Some, subst}
use Rattle.xd_command_steps.specs.Merging.{IsNextLine}
use Rattle.xd_command_steps.proofs.NextLineLemmas.{first_carries, behind_fault, behind_warning, at_the_end}
use Rattle.xd_command_steps.proofs.report.report_lines.Goals as goal

pub fault_line-requires : goal.fault_line-requires
fault_line-requires c =
    let n = subst (λ line. IsNextLine c.loop-line.faults_left.now c.loop-line.warnings_left.now (Some line)) c.in-Fault.is c.in-Some.ensures in
    (first_carries c.args.store.now c.loop-line.faults_left.now c.in-Fault.fault.now c.in-Fault.rest.now n.0 c.loop-line.invariant.0).0

pub loop-line-preserved-in-Fault : goal.loop-line-preserved-in-Fault
loop-line-preserved-in-Fault c =
    let n = subst (λ line. IsNextLine c.loop-line.faults_left.now c.loop-line.warnings_left.now (Some line)) c.in-Fault.is c.in-Some.ensures in (
      (first_carries c.args.store.now c.loop-line.faults_left.now c.in-Fault.fault.now c.in-Fault.rest.now n.0 c.loop-line.invariant.0).1,
      behind_fault c.args.store.now c.args.faults.now c.args.warnings.now c.loop-line.text.items c.fault_line.new.out.items c.loop-line.faults_left.now c.loop-line.warnings_left.now c.loop-line.invariant.1
          c.in-Fault.fault.now c.in-Fault.rest.now n.0 n.1 c.in_ok-fault_line-in-Fault.ensures.ok,
    )

pub loop-line-preserved : goal.loop-line-preserved
loop-line-preserved c =
    let n = subst (λ line. IsNextLine c.loop-line.faults_left.now c.loop-line.warnings_left.now (Some line)) c.in-Warning.is c.in-Some.ensures in (
      c.loop-line.invariant.0,
      behind_warning c.args.store.now c.args.faults.now c.args.warnings.now c.loop-line.text.items c.warning_line.new.out.items c.loop-line.faults_left.now c.loop-line.warnings_left.now c.loop-line.invariant.1
          c.in-Warning.warning.now c.in-Warning.rest.now n.0 n.1 c.in_ok-warning_line-in-Warning.ensures.ok,
    )

pub returns : goal.returns
returns c =
    let n = c.in_default.ensures in
    at_the_end c.args.store.now c.args.faults.now c.args.warnings.now c.loop-line.text.items c.loop-line.text.items c.loop-line.faults_left.now c.loop-line.warnings_left.now c.loop-line.invariant.1 n.0 n.1
