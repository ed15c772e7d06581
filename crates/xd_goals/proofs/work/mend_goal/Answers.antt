use Rattle.std.proofs.Common.{ℕ, ◌≡◌, length, ⊎_elim, sym, subst, ◌∙◌, rules, arith, refl}
use Rattle.std.proofs.lemmas.Bool.{cases_lt}
use Rattle.xd_doc.proofs.StoredLemmas.{Keeps-same}
use Rattle.xd_doc.proofs.Results.{OnOk-map}
use Rattle.xd_goals.specs.Kept.{view_of}
use Rattle.xd_goals.specs.Rows.{GoalRow, row_at, IsUnbroken}
use Rattle.xd_goals.proofs.AreLinkedLemmas.{row_read}
use Rattle.xd_rules.proofs.Results.{OnOk-from_err}
use Rattle.xd_goals.proofs.FactsOnLemmas.{IsStep}
use Rattle.xd_goals.proofs.IsMendingLemmas.{lowers-mended, mended_none, mending-same, mending-then, repaired_same, repaired_step}
use Rattle.xd_goals.proofs.ProgressesLemmas.{progresses-mending, progresses-settled, progresses-then}
use Rattle.xd_goals.proofs.work.mend_goal.Goals as goal
use Rattle.xd_goals.proofs.work.mend_goal.Goals.{then-is_flagged+in_ok-failure+in_default, else-is_flagged}

pub loop-place-init : goal.loop-place-init
loop-place-init c = record {
  can = c.requires.can;
  mending = mending-same c.args.owner.number (view_of c.args.goals.now);
  keeps = Keeps-same c.args.store.now;
  unbroken = λ k lt. absurd (omega arith);
  end_is = subst (λ (r : GoalRow). c.len-place-end.result ≡ length r.broken) (c.row.view_is ∙ row_read c.args.goals.now.rows.items c.args.owner.number _ c.requires.waits.there c.index-row.ensures) (search rules);
}

pub loop-place-preserved : goal.loop-place-preserved
loop-place-preserved c = elim c.if-is_flagged.branch [
  | then-is_flagged+in_ok-failure+in_default w ↦
      rw (w.goals-is, w.answers-is) (record {
        can = w.mend_case.ensures.can;
        mending = mending-then c.args.owner.number (view_of c.args.goals.now) (view_of c.loop-place.goals) (view_of w.mend_case.new.goals) c.loop-place.invariant.mending w.mend_case.ensures.mending;
        keeps = c.loop-place.invariant.keeps;
        unbroken = λ k lt. ⊎_elim
            (λ old. w.mend_case.ensures.mending.unbroken k (c.loop-place.invariant.unbroken k old))
            (λ ge.
            let q : c.loop-place.place ≡ k = omega arith in
            subst (λ (n : ℕ). IsUnbroken (row_at w.mend_case.new.goals.rows.items c.args.owner.number) n) q
            (mended_none c.args.asked.now.auto.now c.loop-place.store (view_of w.mend_case.new.goals) (record { goal = c.args.owner; place = c.loop-place.place }) w.in_ok-failure.failure w.in_default.not-Some w.in_ok-failure.ensures.mended))
            (cases_lt k c.loop-place.place);
        end_is = c.loop-place.invariant.end_is ∙ sym w.mend_case.ensures.mending.flags;
      })
  | else-is_flagged w ↦
      rw (w.goals-is, w.answers-is) (record {
        can = c.loop-place.invariant.can;
        mending = c.loop-place.invariant.mending;
        keeps = c.loop-place.invariant.keeps;
        unbroken = λ k lt. ⊎_elim
            (λ old. c.loop-place.invariant.unbroken k old)
            (λ ge.
            let q : c.loop-place.place ≡ k = omega arith in
            subst (λ (n : ℕ). IsUnbroken (row_at c.loop-place.goals.rows.items c.args.owner.number) n) q
            (rw c.deref.ensures.value at (c.is_flagged.ensures w.if-is_flagged.false)))
            (cases_lt k c.loop-place.place);
        end_is = c.loop-place.invariant.end_is;
      })
]

-- all cases were repaired
held : (c : goal.After-set_standing) → IsStep c.args.asked.now.auto.now c.loop-place.store (view_of c.args.goals.now) (record { rows = c.set_standing.new.rows.items; nodes = c.loop-place.goals.nodes.items; links = c.loop-place.goals.links.items })
held c =
    rw c.set_standing.ensures (repaired_step c.args.asked.now.auto.now c.loop-place.store c.args.owner.number (view_of c.args.goals.now) (view_of c.loop-place.goals) c.requires.waits.there c.requires.waits.waits c.requires.begun c.requires.can.stands.facts c.loop-place.invariant.can.stands
    c.loop-place.invariant.mending (λ k lt. c.loop-place.invariant.unbroken k (omega (arith, c.loop-place-test.false, c.loop-place.invariant.end_is, lt))))

pub is_flagged-requires-clause-goal : goal.is_flagged-requires-clause-goal
is_flagged-requires-clause-goal c = rw c.deref.ensures.value (omega (arith, c.loop-place.invariant.mending.kept.longer, c.requires.waits.there))

pub is_flagged-requires-clause-flag : goal.is_flagged-requires-clause-flag
is_flagged-requires-clause-flag c = rw c.deref.ensures.value (omega (arith, c.loop-place-test.true, c.loop-place.invariant.end_is))

pub mend_case-requires-clause-place : goal.mend_case-requires-clause-place
mend_case-requires-clause-place c = rw (← c.loop-place.invariant.can.stands.facts.flags c.args.owner.number) (omega (arith, c.loop-place-test.true, c.loop-place.invariant.end_is))

pub mend_case-requires-clause-claim : goal.mend_case-requires-clause-claim
mend_case-requires-clause-claim c = c.loop-place.invariant.mending.kept.claims c.args.owner.number c.requires.waits.there ∙ c.requires.claim

pub refute_at-requires-clause-fails : goal.refute_at-requires-clause-fails
refute_at-requires-clause-fails c = rw c.in-Some.is at c.in_ok-failure.ensures.mended

pub set_standing-requires : goal.set_standing-requires
set_standing-requires c = omega (arith, c.loop-place.invariant.mending.kept.longer, c.requires.waits.there)

pub returns-clause-progresses : goal.returns-clause-progresses
returns-clause-progresses c =
    progresses-settled c.loop-place.invariant.can.whole (held c) c.loop-place.invariant.keeps
    (rw c.set_standing.ensures (repaired_same c.args.asked.now.auto.now c.loop-place.store c.args.owner.number (view_of c.args.goals.now) (view_of c.loop-place.goals) c.requires.waits.there c.requires.waits.waits c.requires.begun c.requires.can.stands.facts c.loop-place.invariant.can.stands
    c.loop-place.invariant.mending (λ k lt. c.loop-place.invariant.unbroken k (omega (arith, c.loop-place-test.false, c.loop-place.invariant.end_is, lt))))) refl refl refl

pub returns-clause-settles : goal.returns-clause-settles
returns-clause-settles c = record { lowers = (held c).lowers; right = c.loop-place.invariant.can.right }

pub returns-in-Some-clause-settles : goal.returns-in-Some-clause-settles
returns-in-Some-clause-settles c =
    OnOk-map c.refute_at.result (λ h. record { lowers = lowers-mended c.args.owner.number (view_of c.args.goals.now) (view_of c.mend_case.new.goals) c.refute_at.new.goals.rows.items (mending-then c.args.owner.number (view_of c.args.goals.now) (view_of c.loop-place.goals) (view_of c.mend_case.new.goals) c.loop-place.invariant.mending c.mend_case.ensures.mending) h.lowers; right = h.right })
    c.refute_at.ensures.settles

pub returns-in-Some-clause-progresses : goal.returns-in-Some-clause-progresses
returns-in-Some-clause-progresses c = progresses-then (progresses-mending c.mend_case.ensures.can (mending-then c.args.owner.number (view_of c.args.goals.now) (view_of c.loop-place.goals) (view_of c.mend_case.new.goals) c.loop-place.invariant.mending c.mend_case.ensures.mending) c.loop-place.invariant.keeps) c.refute_at.ensures.progresses

pub returns-in_err-failure-clause-progresses : goal.returns-in_err-failure-clause-progresses
returns-in_err-failure-clause-progresses c = progresses-mending c.mend_case.ensures.can (mending-then c.args.owner.number (view_of c.args.goals.now) (view_of c.loop-place.goals) (view_of c.mend_case.new.goals) c.loop-place.invariant.mending c.mend_case.ensures.mending) c.loop-place.invariant.keeps

pub returns-in_err-failure-clause-settles : goal.returns-in_err-failure-clause-settles
returns-in_err-failure-clause-settles c = OnOk-from_err c.from_residual.result _ c.from_residual.ensures.0

pub mend_case-requires-clause-can : goal.mend_case-requires-clause-can
mend_case-requires-clause-can c = c.loop-place.invariant.can

pub mend_case-requires-clause-waits : goal.mend_case-requires-clause-waits
mend_case-requires-clause-waits c = record { there = omega (arith, c.loop-place.invariant.mending.kept.longer, c.requires.waits.there); waits = c.loop-place.invariant.mending.standing ∙ c.requires.waits.waits }

pub refute_at-requires-clause-can : goal.refute_at-requires-clause-can
refute_at-requires-clause-can c = c.mend_case.ensures.can

pub refute_at-requires-clause-waits : goal.refute_at-requires-clause-waits
refute_at-requires-clause-waits c =
    let m = mending-then c.args.owner.number (view_of c.args.goals.now) (view_of c.loop-place.goals) (view_of c.mend_case.new.goals) c.loop-place.invariant.mending c.mend_case.ensures.mending in
    record { there = omega (arith, m.kept.longer, c.requires.waits.there); waits = m.standing ∙ c.requires.waits.waits }
