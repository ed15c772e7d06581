use Rattle.std.proofs.Common.{◌≡◌, true, take}
use Rattle.xd_proof.specs.declared.steps.Step.TheVariants.{Content}
use Rattle.xd_proof_make.specs.Met.{IsMet, IsStepTo}
use Rattle.xd_proof_make.proofs.IsMetLemmas.{meets-then, met-kept, steps-kept, all_more_by, all_get_by}
use Rattle.xd_proof_make.proofs.reach.meet_steps.Goals as goal

pub loop-step-preserved : goal.loop-step-preserved
loop-step-preserved c =
    let i = c.loop-step.invariant in
    record {
      more = meets-then c.args.met.now.order.items c.args.met.now.numbers.items c.loop-step.met.order.items c.loop-step.met.numbers.items c.meet_step.new.met.order.items c.meet_step.new.met.numbers.items i.more c.meet_step.ensures.more;
      ok = all_more_by (IsStepTo (IsMet c.meet_step.new.met.numbers.items)) c.args.steps.now c.loop-step.step-index (Content 0) c.loop-step-test.true
          (steps-kept (IsMet c.loop-step.met.numbers.items) (IsMet c.meet_step.new.met.numbers.items)
          (met-kept c.loop-step.met.order.items c.loop-step.met.numbers.items c.meet_step.new.met.order.items c.meet_step.new.met.numbers.items c.meet_step.ensures.more) (take c.loop-step.step-index c.args.steps.now) i.ok)
          c.in_ok-meet_step.ensures.ok;
      only = λ p h k. c.meet_step.ensures.only p (all_get_by (IsStepTo (λ g. p g ≡ true)) c.args.steps.now c.loop-step.step-index (Content 0) c.loop-step-test.true h) (i.only p h k);
    }

pub returns-in_err-meet_step-clause-only : goal.returns-in_err-meet_step-clause-only
returns-in_err-meet_step-clause-only c =
    λ p h k. c.meet_step.ensures.only p (all_get_by (IsStepTo (λ g. p g ≡ true)) c.args.steps.now c.loop-step.step-index (Content 0) c.loop-step-test.true h) (c.loop-step.invariant.only p h k)

pub returns-in_err-meet_step-clause-more : goal.returns-in_err-meet_step-clause-more
returns-in_err-meet_step-clause-more c =
    meets-then c.args.met.now.order.items c.args.met.now.numbers.items c.loop-step.met.order.items c.loop-step.met.numbers.items c.meet_step.new.met.order.items c.meet_step.new.met.numbers.items
    c.loop-step.invariant.more c.meet_step.ensures.more
