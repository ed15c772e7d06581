use Rattle.std.proofs.Common.{◌≡◌, ◌^◌, ◌<◌, [], length, ap, subst, sym, ◌∙◌, arith}
use Rattle.xd_least.specs.Least.{size_limit}
use Rattle.xd_syntax.specs.CheckFaults.{faults_among}
use Rattle.xd_syntax.specs.Kept.{program_tree}
use Rattle.xd_check.specs.Outcome.{IsOutcome}
use Rattle.xd_command_steps.specs.Merging.{IsMerged}
use Rattle.xd_command_steps.specs.Output.{Output}
use Rattle.xd_command_steps.proofs.NextLineLemmas.{Carry}
use Rattle.xd_command_programs.proofs.SmallFaults.{written_lines}
use Rattle.xd_command_programs.proofs.Verdicts.{all_carry, ends_at_lines}
use Rattle.xd_command_programs.proofs.command.run.accepted.Goals as goal

pub report_lines-requires : goal.report_lines-requires
report_lines-requires c =
    let h = subst (IsOutcome c.args.sound c.check.new.store) c.in-Refused.is c.in_ok-checked.ensures.outcome in
    subst (Carry c.check.new.store) (sym c.deref.ensures.value) (all_carry c.check.new.store (faults_among h.0) c.in-Refused.faults.items h.3)

pub returns : goal.returns
returns c =
    let h = subst (IsOutcome c.args.sound c.check.new.store) c.in-Refused.is c.in_ok-checked.ensures.outcome in
    let m = subst (λ fs. IsMerged c.check.new.store fs [] c.in_ok-text-in-Refused.text.items) c.deref.ensures.value c.in_ok-text-in-Refused.ensures in
    let t = c.in_ok-text-in-Refused.text.items in
    let fits : length t < 2 ^ 63 = subst (λ w. length w < 2 ^ 63) (c.text-text.ensures ∙ ap (λ (o : Output). o.text) c.refused-output.ensures) (omega (arith, c.text-text.type_inv)) in
    let lines = written_lines c.check.new.store size_limit (program_tree c.args.sound) h.0 c.in-Refused.faults.items [] t h.1 h.3 m fits in
    ends_at_lines (program_tree c.args.sound) c.check.new.store h.0 c.in-Refused.faults.items t _ lines h.2 h.3 m c.refused-output.ensures

pub returns-in-Accepted : goal.returns-in-Accepted
returns-in-Accepted c = (subst (IsOutcome c.args.sound c.check.new.store) c.in-Accepted.is c.in_ok-checked.ensures.outcome).5
