use Rattle.std.proofs.Common.{refl}
use Rattle.xd_rules.proofs.Results.{OnOk-from_err}
use Rattle.xd_goals.specs.Kept.{view_of}
use Rattle.xd_goals.proofs.Facts.{stands-keeps}
use Rattle.xd_goals.proofs.FactsOnLemmas.{IsStep, keeps_goals-same, none_added, step_refuted, same_refuted}
use Rattle.xd_goals.proofs.ProgressesLemmas.{progresses-settled}
use Rattle.xd_goals.proofs.work.refute_at.Goals as goal

refuted : (c : goal.After-refute) → IsStep c.args.asked.now.auto.now c.separate.new.store (view_of c.args.goals.now) (record { rows = c.refute.new.rows.items; nodes = c.args.goals.now.nodes.items; links = c.args.goals.now.links.items })
refuted c =
    step_refuted c.args.asked.now.auto.now c.separate.new.store c.args.goals.now.rows.items c.refute.new.rows.items c.args.goals.now.nodes.items c.args.goals.now.links.items c.args.owner.number c.in_ok-document.document c.requires.waits.there c.requires.waits.waits
    (rw c.deref.ensures.value at c.refute.ensures) c.in_ok-document.ensures.separated (stands-keeps c.args.asked.now.auto.now c.args.store.now c.separate.new.store (view_of c.args.goals.now) c.separate.ensures.keeps c.requires.can.stands)

pub refute-requires-clause-goal : goal.refute-requires-clause-goal
refute-requires-clause-goal c = c.requires.waits.there

pub returns-clause-progresses : goal.returns-clause-progresses
returns-clause-progresses c =
    progresses-settled c.requires.can.whole (refuted c) c.separate.ensures.keeps
    (same_refuted c.args.asked.now.auto.now c.separate.new.store c.args.goals.now.rows.items c.refute.new.rows.items c.args.goals.now.nodes.items c.args.goals.now.links.items c.args.owner.number c.in_ok-document.document c.requires.waits.there c.requires.waits.waits
    (rw c.deref.ensures.value at c.refute.ensures)) refl refl refl

pub returns-clause-settles : goal.returns-clause-settles
returns-clause-settles c = record { lowers = (refuted c).lowers; right = c.stay_right.ensures.store c.args.asked.now.auto.now c.args.store.now c.separate.new.store c.separate.ensures.keeps c.requires.can.right }

pub returns-in_err-document-clause-progresses : goal.returns-in_err-document-clause-progresses
returns-in_err-document-clause-progresses c = record {
  whole = c.requires.can.whole;
  stands = stands-keeps c.args.asked.now.auto.now c.args.store.now c.separate.new.store (view_of c.args.goals.now) c.separate.ensures.keeps c.requires.can.stands;
  kept = keeps_goals-same (view_of c.args.goals.now);
  keeps = c.separate.ensures.keeps;
  made = none_added c.args.goals.now.rows.items;
}

pub refute-requires-clause-links : goal.refute-requires-clause-links
refute-requires-clause-links c = rw c.deref.ensures.value c.requires.can.whole.links

pub returns-in_err-document-clause-settles : goal.returns-in_err-document-clause-settles
returns-in_err-document-clause-settles c = OnOk-from_err c.from_residual.result _ c.from_residual.ensures.0

pub separate-requires-clause-owner : goal.separate-requires-clause-owner
separate-requires-clause-owner c = c.requires.waits.there

pub separate-requires-clause-stands : goal.separate-requires-clause-stands
separate-requires-clause-stands c = c.requires.can.stands
