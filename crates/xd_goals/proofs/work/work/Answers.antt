use Rattle.xd_doc.proofs.StoredLemmas.{Keeps-same}
use Rattle.xd_rules.proofs.Results.{OnOk-from_err}
use Rattle.std.proofs.Common.{◌≡◌, true, false, refl, ap, subst, sym, ◌∙◌, rules}
use Rattle.std.specs.List.{AllByRecursion, list_any}
use Rattle.xd_auto.specs.Automaton.{IsState}
use Rattle.xd_state_heads.specs.Moves.{is_last_in}
use Rattle.xd_goals.specs.Rows.{GoalRow, claim_of, row_at}
use Rattle.xd_goals.specs.Kept.{view_of}
use Rattle.xd_goals.proofs.AreLinkedLemmas.{row_read}
use Rattle.xd_goals.proofs.Verdicts.{empty_separated}
use Rattle.xd_goals.proofs.FactsOnLemmas.{IsStep, same_refuted, step_refuted}
use Rattle.xd_goals.proofs.ProgressesLemmas.{progresses-same, progresses-settled}
use Rattle.xd_goals.proofs.work.work.Goals as goal

refuted : (c : goal.After-drop-rights) → IsStep c.args.auto.now c.args.store.now (view_of c.args.goals.now) (record { rows = c.refute.new.rows.items; nodes = c.args.goals.now.nodes.items; links = c.args.goals.now.links.items })
refuted c =
    let row = c.row.view_is ∙ row_read c.args.goals.now.rows.items c.args.owner.number _ c.requires.waits.there c.index-row.ensures in
    let same : c.in_ok-rights.rights.items ≡ c.as_slice.result.now = search rules in
    let u = c.if-is_uncovered.ensures.yes refl in
    let rights_not : list_any (is_last_in c.args.auto.now) (row_at c.args.goals.now.rows.items c.args.owner.number).rights ≡ false =
    subst (λ (r : GoalRow). list_any (is_last_in c.args.auto.now) r.rights ≡ false) row
    (rw c.as_slice.ensures.value at (rw same at (rw c.deref.ensures.value at u.rights_not))) in
    step_refuted c.args.auto.now c.args.store.now c.args.goals.now.rows.items c.refute.new.rows.items c.args.goals.now.nodes.items c.args.goals.now.links.items c.args.owner.number c.empty.result c.requires.waits.there c.requires.waits.waits
    (rw c.deref-then-is_uncovered.ensures.value at c.refute.ensures)
    (empty_separated c.args.auto.now c.args.store.now (claim_of (row_at c.args.goals.now.rows.items c.args.owner.number)) c.empty.result c.empty.ensures
    (subst (λ (r : GoalRow). is_last_in c.args.auto.now r.left ≡ true) row u.left_last) rights_not)
    c.requires.can.stands

pub is_uncovered-requires-clause-left : goal.is_uncovered-requires-clause-left
is_uncovered-requires-clause-left c =
    subst (λ (r : GoalRow). IsState c.args.auto.now r.left) (sym (c.row.view_is ∙ row_read c.args.goals.now.rows.items c.args.owner.number _ c.requires.waits.there c.index-row.ensures)) (c.requires.can.stands.facts.states.each c.args.owner.number c.requires.waits.there).left

pub is_uncovered-requires-clause-rights : goal.is_uncovered-requires-clause-rights
is_uncovered-requires-clause-rights c =
    let same : c.in_ok-rights.rights.items ≡ c.as_slice.result.now = search rules in
    rw (c.deref.ensures.value, same, c.as_slice.ensures.value) (subst (λ (r : GoalRow). AllByRecursion (IsState c.args.auto.now) r.rights) (sym (c.row.view_is ∙ row_read c.args.goals.now.rows.items c.args.owner.number _ c.requires.waits.there c.index-row.ensures)) (c.requires.can.stands.facts.states.each c.args.owner.number c.requires.waits.there).rights)

pub work_on_cases-requires-clause-claim : goal.work_on_cases-requires-clause-claim
work_on_cases-requires-clause-claim c =
    let same : c.in_ok-rights.rights.items ≡ c.as_slice.result.now = search rules in
    rw (c.deref-2.ensures.value, same, c.as_slice.ensures.value) (sym (ap claim_of (c.row.view_is ∙ row_read c.args.goals.now.rows.items c.args.owner.number _ c.requires.waits.there c.index-row.ensures)))

pub work_on_cases-requires-clause-last : goal.work_on_cases-requires-clause-last
work_on_cases-requires-clause-last c = rw c.deref-2.ensures.value (rw c.deref.ensures.value at (c.if-is_uncovered.ensures.no refl))

pub refute-requires-clause-goal : goal.refute-requires-clause-goal
refute-requires-clause-goal c = c.requires.waits.there

pub returns-then-is_uncovered-clause-progresses : goal.returns-then-is_uncovered-clause-progresses
returns-then-is_uncovered-clause-progresses c =
    progresses-settled c.requires.can.whole (refuted c) (Keeps-same c.args.store.now)
    (same_refuted c.args.auto.now c.args.store.now c.args.goals.now.rows.items c.refute.new.rows.items c.args.goals.now.nodes.items c.args.goals.now.links.items c.args.owner.number c.empty.result c.requires.waits.there c.requires.waits.waits
    (rw c.deref-then-is_uncovered.ensures.value at c.refute.ensures)) refl refl refl

pub returns-then-is_uncovered-clause-settles : goal.returns-then-is_uncovered-clause-settles
returns-then-is_uncovered-clause-settles c = record { lowers = (refuted c).lowers; right = c.requires.can.right }

pub returns-in_err-rights-clause-progresses : goal.returns-in_err-rights-clause-progresses
returns-in_err-rights-clause-progresses c = progresses-same c.requires.can.whole c.requires.can.stands

pub returns-in_err-rights-clause-settles : goal.returns-in_err-rights-clause-settles
returns-in_err-rights-clause-settles c = OnOk-from_err c.from_residual.result _ c.from_residual.ensures.0

pub returns-clause-progresses : goal.returns-clause-progresses
returns-clause-progresses c = c.work_on_cases.ensures.progresses

pub returns-clause-settles : goal.returns-clause-settles
returns-clause-settles c = c.work_on_cases.ensures.settles

pub work_on_cases-requires-clause-can : goal.work_on_cases-requires-clause-can
work_on_cases-requires-clause-can c = c.requires.can

pub work_on_cases-requires-clause-waits : goal.work_on_cases-requires-clause-waits
work_on_cases-requires-clause-waits c = c.requires.waits

pub refute-requires-clause-links : goal.refute-requires-clause-links
refute-requires-clause-links c = rw c.deref-then-is_uncovered.ensures.value c.requires.can.whole.links
