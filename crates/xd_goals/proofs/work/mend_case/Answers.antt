use Rattle.std.proofs.lemmas.Result.{IfOk-from_err}
use Rattle.std.proofs.Common.{arith, subst, sym}
use Rattle.xd_auto.specs.declared.auto.State.{State}
use Rattle.xd_rules.specs.Rules.{Claim}
use Rattle.xd_state_heads.specs.Moves.{claim_with}
use Rattle.xd_goals.specs.Cases.{FailsAt}
use Rattle.xd_goals.specs.Kept.{view_of}
use Rattle.xd_goals.specs.Facts.{ChoiceStands}
use Rattle.xd_goals.proofs.Trees.{broken-grows, choices-grows}
use Rattle.xd_goals.proofs.FactsOnLemmas.{owner_claim}
use Rattle.xd_goals.proofs.IsMendingLemmas.{mending-grows, mending-same, repaired_mending, repaired_stands, repaired_unbroken, repaired_whole}
use Rattle.xd_goals.proofs.ProgressesLemmas.{can_begin, progresses-grown}
use Rattle.xd_goals.proofs.work.mend_case.Goals as goal

pub mend_choice-requires-clause-choice : goal.mend_choice-requires-clause-choice
mend_choice-requires-clause-choice c =
    subst (λ (x : Claim State). ChoiceStands c.args.asked.now.auto.now (view_of c.args.goals.now) c.args.owner x c.in_ok-choice.choice) c.requires.claim
    (c.requires.can.stands.facts.choices c.args.owner.goal.number c.args.owner.place c.in_ok-choice.choice (rw c.deref.ensures.value at c.in_ok-choice.ensures))

pub returns-in_err-root-clause-mending : goal.returns-in_err-root-clause-mending
returns-in_err-root-clause-mending c = mending-grows c.args.owner.goal.number (view_of c.args.goals.now) (view_of c.mend_choice.new.goals) c.mend_choice.ensures.grows.grows

pub returns-in-Fails-clause-mending : goal.returns-in-Fails-clause-mending
returns-in-Fails-clause-mending c = mending-grows c.args.owner.goal.number (view_of c.args.goals.now) (view_of c.mend_choice.new.goals) c.mend_choice.ensures.grows.grows

pub returns-in-Stands-clause-mending : goal.returns-in-Stands-clause-mending
returns-in-Stands-clause-mending c =
    repaired_mending c.args.asked.now.auto.now c.args.store.now c.args.goals.now c.mend_choice.new.goals c.mend_choice.ensures.grows.grows c.mend_choice.ensures.grows.consistent c.args.owner (claim_with c.args.asked.now.left c.args.asked.now.rights.now) c.in_ok-choice.choice c.in-Stands.root c.set_root.new.rows.items
    c.requires.waits.there c.requires.waits.waits c.requires.claim (rw c.deref.ensures.value at c.in_ok-choice.ensures) c.requires.can.stands (rw c.in-Stands.is at c.in_ok-root.ensures.grown) c.set_root.ensures

pub returns-in-Stands-clause-mended : goal.returns-in-Stands-clause-mended
returns-in-Stands-clause-mended c =
    repaired_unbroken c.args.asked.now.auto.now c.args.store.now c.args.goals.now c.mend_choice.new.goals c.mend_choice.ensures.grows.grows c.mend_choice.ensures.grows.consistent c.args.owner (claim_with c.args.asked.now.left c.args.asked.now.rights.now) c.in_ok-choice.choice c.in-Stands.root c.set_root.new.rows.items
    c.requires.waits.there c.requires.waits.waits c.requires.claim (rw c.deref.ensures.value at c.in_ok-choice.ensures) c.requires.can.stands (rw c.in-Stands.is at c.in_ok-root.ensures.grown) c.set_root.ensures

pub returns-in_err-choice-clause-mending : goal.returns-in_err-choice-clause-mending
returns-in_err-choice-clause-mending c = mending-same c.args.owner.goal.number (view_of c.args.goals.now)

pub set_root-requires-clause-goal : goal.set_root-requires-clause-goal
set_root-requires-clause-goal c = omega (arith, c.mend_choice.ensures.grows.grows.longer, c.requires.waits.there)

pub set_root-requires-clause-choice : goal.set_root-requires-clause-choice
set_root-requires-clause-choice c =
    let e = choices-grows (view_of c.args.goals.now) (view_of c.mend_choice.new.goals) c.mend_choice.ensures.grows.grows c.args.owner.goal.number in
    rw e c.requires.place

pub set_root-requires-clause-flag : goal.set_root-requires-clause-flag
set_root-requires-clause-flag c =
    let e = broken-grows (view_of c.args.goals.now) (view_of c.mend_choice.new.goals) c.mend_choice.ensures.grows.grows c.args.owner.goal.number in
    rw (e, c.requires.can.stands.facts.flags c.args.owner.goal.number) c.requires.place

pub choice_of-requires-clause-goal : goal.choice_of-requires-clause-goal
choice_of-requires-clause-goal c = rw c.deref.ensures.value c.requires.waits.there

pub choice_of-requires-clause-choice : goal.choice_of-requires-clause-choice
choice_of-requires-clause-choice c = rw c.deref.ensures.value c.requires.place

pub returns-in-Fails-clause-mended : goal.returns-in-Fails-clause-mended
returns-in-Fails-clause-mended c =
    subst (λ (x : Claim State). FailsAt c.args.asked.now.auto.now c.args.store.now (view_of c.mend_choice.new.goals) x c.in_ok-choice.choice.atom c.in-Fails.inside c.in-Fails.behind)
    (sym (owner_claim (view_of c.args.goals.now) (view_of c.mend_choice.new.goals) c.mend_choice.ensures.grows.grows c.args.owner.goal.number (claim_with c.args.asked.now.left c.args.asked.now.rights.now) c.requires.waits.there c.requires.claim)) (rw c.in-Fails.is at c.in_ok-root.ensures.grown)

pub returns-in_err-root-clause-mended : goal.returns-in_err-root-clause-mended
returns-in_err-root-clause-mended c = IfOk-from_err c.from_residual-in_err-root.result _ c.from_residual-in_err-root.ensures.0

pub returns-in_err-choice-clause-mended : goal.returns-in_err-choice-clause-mended
returns-in_err-choice-clause-mended c = IfOk-from_err c.from_residual.result _ c.from_residual.ensures.0

pub returns-in-Stands-clause-can : goal.returns-in-Stands-clause-can
returns-in-Stands-clause-can c =
    let w = repaired_whole c.args.asked.now.auto.now c.args.store.now c.args.goals.now c.mend_choice.new.goals c.mend_choice.ensures.grows.grows c.mend_choice.ensures.grows.consistent c.args.owner (claim_with c.args.asked.now.left c.args.asked.now.rights.now) c.in_ok-choice.choice c.in-Stands.root c.set_root.new.rows.items
    c.requires.waits.there c.requires.waits.waits c.requires.claim (rw c.deref.ensures.value at c.in_ok-choice.ensures) c.requires.can.stands (rw c.in-Stands.is at c.in_ok-root.ensures.grown) c.set_root.ensures in
    record {
      whole = record { index = w.0; links = w.1; nodes = w.2 };
      stands = repaired_stands c.args.asked.now.auto.now c.args.store.now c.args.goals.now c.mend_choice.new.goals c.mend_choice.ensures.grows.grows c.mend_choice.ensures.grows.consistent c.args.owner (claim_with c.args.asked.now.left c.args.asked.now.rights.now) c.in_ok-choice.choice c.in-Stands.root c.set_root.new.rows.items
          c.requires.waits.there c.requires.waits.waits c.requires.claim (rw c.deref.ensures.value at c.in_ok-choice.ensures) c.requires.can.stands (rw c.in-Stands.is at c.in_ok-root.ensures.grown) c.set_root.ensures;
      right = c.mend_choice.ensures.grows.right;
    }

pub returns-in_err-root-clause-can : goal.returns-in_err-root-clause-can
returns-in_err-root-clause-can c = let now = progresses-grown c.requires.can.stands c.mend_choice.ensures.grows in record { whole = now.whole; stands = now.stands; right = c.mend_choice.ensures.grows.right }

pub returns-in-Fails-clause-can : goal.returns-in-Fails-clause-can
returns-in-Fails-clause-can c = let now = progresses-grown c.requires.can.stands c.mend_choice.ensures.grows in record { whole = now.whole; stands = now.stands; right = c.mend_choice.ensures.grows.right }

pub returns-in_err-choice-clause-can : goal.returns-in_err-choice-clause-can
returns-in_err-choice-clause-can c = c.requires.can

pub mend_choice-requires-clause-can : goal.mend_choice-requires-clause-can
mend_choice-requires-clause-can c = can_begin (claim_with c.args.asked.now.left c.args.asked.now.rights.now) c.args.owner.goal c.requires.can c.requires.waits c.requires.claim
