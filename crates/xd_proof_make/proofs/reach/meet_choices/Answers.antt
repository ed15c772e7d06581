use Rattle.std.proofs.Common.{◌≡◌, ℕ, ◌<◌, true, take, length, sym, subst}
use Rattle.std.specs.List.{AllByRecursion}
use Rattle.xd_doc.proofs.Lists.{all_taken}
use Rattle.xd_goals.specs.Reached.{HasTreeWithin}
use Rattle.xd_goals.specs.declared.table.Choice.{Choice}
use Rattle.xd_proof_make.specs.Met.{IsMet, IsStepTo, LeadsTo}
use Rattle.xd_proof_make.proofs.IsMetLemmas.{meets-then, met-kept, leads-kept, leads-steps, steps-lead, steps-within, all_get}
use Rattle.xd_proof_make.proofs.reach.meet_choices.Goals as goal

pub meet_steps-requires : goal.meet_steps-requires
meet_steps-requires c =
    let n = length c.args.met.now.numbers.items in
    let tree = all_get (λ (k : Choice). HasTreeWithin c.args.table.now.nodes n k.root) c.args.choices.now c.loop-choice.choice-index c.choice-item.result c.loop-choice-test.true c.choice-item.is c.requires in
    subst (AllByRecursion (IsStepTo (λ g. g < length c.loop-choice.met.numbers.items))) (sym c.deref.ensures.value)
    (subst (λ (m : ℕ). AllByRecursion (IsStepTo (λ g. g < m)) c.in_ok-steps.steps.items) (sym c.loop-choice.invariant.more.sized) (steps-within c.args.table.now.nodes n c.choice-item.result c.in_ok-steps.steps.items tree c.in_ok-steps.ensures))

pub loop-choice-preserved : goal.loop-choice-preserved
loop-choice-preserved c =
    let i = c.loop-choice.invariant in
    let n = length c.args.met.now.numbers.items in
    let tree = all_get (λ (k : Choice). HasTreeWithin c.args.table.now.nodes n k.root) c.args.choices.now c.loop-choice.choice-index c.choice-item.result c.loop-choice-test.true c.choice-item.is c.requires in
    record {
      more = meets-then c.args.met.now.order.items c.args.met.now.numbers.items c.loop-choice.met.order.items c.loop-choice.met.numbers.items c.meet_steps.new.met.order.items c.meet_steps.new.met.numbers.items i.more c.meet_steps.ensures.more;
      ok = all_taken (LeadsTo c.args.table.now.nodes (IsMet c.meet_steps.new.met.numbers.items)) c.args.choices.now c.loop-choice.choice-index c.choice-item.result c.loop-choice-test.true c.choice-item.is
          (leads-kept c.args.table.now.nodes (IsMet c.loop-choice.met.numbers.items) (IsMet c.meet_steps.new.met.numbers.items)
          (met-kept c.loop-choice.met.order.items c.loop-choice.met.numbers.items c.meet_steps.new.met.order.items c.meet_steps.new.met.numbers.items c.meet_steps.ensures.more) (take c.loop-choice.choice-index c.args.choices.now) i.ok)
          (leads-steps c.args.table.now.nodes (IsMet c.meet_steps.new.met.numbers.items) c.choice-item.result c.in_ok-steps.steps.items c.in_ok-steps.ensures
          (subst (AllByRecursion (IsStepTo (IsMet c.meet_steps.new.met.numbers.items))) c.deref.ensures.value c.in_ok-meet_steps.ensures.ok));
      only = λ p h k. c.meet_steps.ensures.only p
          (subst (AllByRecursion (IsStepTo (λ g. p g ≡ true))) (sym c.deref.ensures.value)
          (steps-lead c.args.table.now.nodes (λ g. p g ≡ true) n c.choice-item.result c.in_ok-steps.steps.items tree c.in_ok-steps.ensures
          (all_get (LeadsTo c.args.table.now.nodes (λ g. p g ≡ true)) c.args.choices.now c.loop-choice.choice-index c.choice-item.result c.loop-choice-test.true c.choice-item.is h)))
          (i.only p h k);
    }

pub returns-in_err-meet_steps-clause-only : goal.returns-in_err-meet_steps-clause-only
returns-in_err-meet_steps-clause-only c =
    let n = length c.args.met.now.numbers.items in
    let tree = all_get (λ (k : Choice). HasTreeWithin c.args.table.now.nodes n k.root) c.args.choices.now c.loop-choice.choice-index c.choice-item.result c.loop-choice-test.true c.choice-item.is c.requires in
    λ p h k. c.meet_steps.ensures.only p
    (subst (AllByRecursion (IsStepTo (λ g. p g ≡ true))) (sym c.deref.ensures.value)
    (steps-lead c.args.table.now.nodes (λ g. p g ≡ true) n c.choice-item.result c.in_ok-steps.steps.items tree c.in_ok-steps.ensures
    (all_get (LeadsTo c.args.table.now.nodes (λ g. p g ≡ true)) c.args.choices.now c.loop-choice.choice-index c.choice-item.result c.loop-choice-test.true c.choice-item.is h)))
    (c.loop-choice.invariant.only p h k)

pub returns-in_err-meet_steps-clause-more : goal.returns-in_err-meet_steps-clause-more
returns-in_err-meet_steps-clause-more c =
    meets-then c.args.met.now.order.items c.args.met.now.numbers.items c.loop-choice.met.order.items c.loop-choice.met.numbers.items c.meet_steps.new.met.order.items c.meet_steps.new.met.numbers.items
    c.loop-choice.invariant.more c.meet_steps.ensures.more
