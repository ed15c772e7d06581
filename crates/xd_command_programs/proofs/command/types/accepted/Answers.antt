use Rattle.std.proofs.Common.{subst, sym}
use Rattle.xd_syntax.specs.CheckFaults.{faults_among}
use Rattle.xd_syntax.specs.Kept.{program_tree}
use Rattle.xd_check.specs.Outcome.{IsOutcome}
use Rattle.xd_command_steps.proofs.NextLineLemmas.{Carry}
use Rattle.xd_command_programs.specs.CheckRefused.{AreRefused}
use Rattle.xd_command_programs.proofs.Verdicts.{all_carry}
use Rattle.xd_command_programs.proofs.command.types.accepted.Goals as goal

pub refusal-requires : goal.refusal-requires
refusal-requires c =
    let h = subst (IsOutcome c.args.sound c.check.new.store) c.in-Refused.is c.in_ok-checked.ensures.outcome in
    subst (Carry c.check.new.store) (sym c.deref.ensures.value) (all_carry c.check.new.store (faults_among h.0) c.in-Refused.faults.items h.3)

pub returns : goal.returns
returns c =
    let ds = c.check.new.store in
    let P = program_tree c.args.sound in
    let h = subst (IsOutcome c.args.sound ds) c.in-Refused.is c.in_ok-checked.ensures.outcome in
    let told : AreRefused P ds c.in-Refused.faults.items c.in-Refused.warnings.items = record { lines = h.0; all = h.1; some = h.2; faults = h.3; warnings = h.4 } in
    let refused = subst (λ fs. AreRefused P ds fs c.deref-in-Refused.result.now) (sym c.deref.ensures.value) (subst (λ ws. AreRefused P ds c.in-Refused.faults.items ws) (sym c.deref-in-Refused.ensures.value) told) in
    c.in_ok-output-in-Refused.ensures P refused

pub returns-in-Accepted : goal.returns-in-Accepted
returns-in-Accepted c = (subst (IsOutcome c.args.sound c.check.new.store) c.in-Accepted.is c.in_ok-checked.ensures.outcome).5
