use Rattle.std.proofs.Common.{[], subst, sym}
use Rattle.std.proofs.lemmas.Result.{IfOk-weaker}
use Rattle.xd_syntax.specs.CheckFaults.{faults_among}
use Rattle.xd_syntax.specs.Kept.{program_tree}
use Rattle.xd_check.specs.Outcome.{IsOutcome}
use Rattle.xd_command_steps.specs.Merging.{IsMerged}
use Rattle.xd_command_steps.proofs.NextLineLemmas.{Carry}
use Rattle.xd_command_programs.specs.Check.{AnswersCheck, EndsAtCheck}
use Rattle.xd_command_programs.specs.CheckRefused.{AreRefused}
use Rattle.xd_command_programs.proofs.Verdicts.{all_carry, answers_accepted}
use Rattle.xd_command_programs.proofs.command.check.verdict.Goals as goal

pub returns-in_ok-accepted-in-Accepted : goal.returns-in_ok-accepted-in-Accepted
returns-in_ok-accepted-in-Accepted c p is =
    let ds = c.args.store.now in
    let h = subst (IsOutcome p ds) c.in-Accepted.is is in
    let m = subst (λ ws. IsMerged ds [] ws c.in_ok-text-in-Accepted.text.items) c.deref.ensures.value c.in_ok-text-in-Accepted.ensures in
    answers_accepted (program_tree p) ds h.0 h.1 c.in-Accepted.warnings.items h.3 c.in_ok-text-in-Accepted.text.items _ h.2 m c.in_ok-accepted-in-Accepted.ensures

pub refusal-requires : goal.refusal-requires
refusal-requires c =
    let ds = c.args.store.now in
    let h = subst (IsOutcome c.requires.0 ds) c.in-Refused.is c.requires.1 in
    subst (Carry ds) (sym c.deref-in-Refused.ensures.value) (all_carry ds (faults_among h.0) c.in-Refused.faults.items h.3)

pub returns-in-Refused : goal.returns-in-Refused
returns-in-Refused c p is =
    let ds = c.args.store.now in
    let h = subst (IsOutcome p ds) c.in-Refused.is is in
    let told : AreRefused (program_tree p) ds c.in-Refused.faults.items c.in-Refused.warnings.items = record { lines = h.0; all = h.1; some = h.2; faults = h.3; warnings = h.4 } in
    let refused = subst (λ fs. AreRefused (program_tree p) ds fs c.deref-in-Refused-2.result.now) (sym c.deref-in-Refused.ensures.value)
    (subst (λ ws. AreRefused (program_tree p) ds c.in-Refused.faults.items ws) (sym c.deref-in-Refused-2.ensures.value) told) in
    IfOk-weaker c.refusal.result (EndsAtCheck (program_tree p)) (AnswersCheck (program_tree p)) (λ o e. e.1) (c.refusal.ensures (program_tree p) refused)
