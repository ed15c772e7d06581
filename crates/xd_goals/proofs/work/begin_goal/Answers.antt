use Rattle.std.proofs.Common.{◌<◌, ◌≡◌, length, sym, subst, ◌∙◌, arith, rules, refl}
use Rattle.xd_doc.proofs.StoredLemmas.{Keeps-same}
use Rattle.xd_doc.proofs.Results.{OnOk-map}
use Rattle.xd_rules.specs.Rules.{Claim}
use Rattle.xd_auto.specs.declared.auto.State.{State}
use Rattle.xd_state_heads.specs.Moves.{claim_with}
use Rattle.xd_goals.specs.Kept.{view_of}
use Rattle.xd_goals.specs.Cases.{FailsAt}
use Rattle.xd_goals.proofs.Trees.{standing-grows}
use Rattle.xd_goals.proofs.PotentialLemmas.{lowers-grown}
use Rattle.xd_rules.proofs.Results.{OnOk-from_err}
use Rattle.xd_goals.proofs.FactsOnLemmas.{IsStep, held_by, owner_claim, same_held_by, stands_grown, step_grown, whole_of}
use Rattle.xd_goals.proofs.ProgressesLemmas.{can_begin, progresses-grown, progresses-settled, progresses-then, waits_grown}
use Rattle.xd_goals.proofs.work.begin_goal.Goals as goal

pub refute_at-requires-clause-fails : goal.refute_at-requires-clause-fails
refute_at-requires-clause-fails c =
    subst (λ (x : Claim State). FailsAt c.args.asked.now.auto.now c.args.store.now (view_of c.begin.new.goals) x c.in-Separates.failure.atom c.in-Separates.failure.inside c.in-Separates.failure.behind)
    (sym (owner_claim (view_of c.args.goals.now) (view_of c.begin.new.goals) c.begin.ensures.grows.grows c.args.owner.number (claim_with c.args.asked.now.left c.args.asked.now.rights.now) c.requires.waits.there c.requires.claim)) (rw c.in-Separates.is at c.in_ok-made.ensures.settled)

-- what settles the goal, and the goals that are the same then
held : (c : goal.After-hold) → IsStep c.args.asked.now.auto.now c.args.store.now (view_of c.args.goals.now) (record { rows = c.hold.new.rows.items; nodes = c.begin.new.goals.nodes.items; links = c.begin.new.goals.links.items })
held c =
    let there : c.args.owner.number < length c.begin.new.goals.rows.items = omega (arith, c.begin.ensures.grows.grows.longer, c.requires.waits.there) in
    let flags : length c.in_ok-broken-in-Holds.broken.items ≡ length c.in-Holds.made.items = search rules in
    rw c.hold.ensures (step_grown c.args.asked.now.auto.now c.args.store.now (view_of c.args.goals.now) (view_of c.begin.new.goals) _ c.begin.ensures.grows.grows
    (held_by c.args.asked.now.auto.now c.args.store.now (view_of c.begin.new.goals) c.args.owner.number (claim_with c.args.asked.now.left c.args.asked.now.rights.now) c.in-Holds.made.items c.in_ok-broken-in-Holds.broken.items flags there
    (standing-grows (view_of c.args.goals.now) (view_of c.begin.new.goals) c.begin.ensures.grows.grows c.args.owner.number ∙ c.requires.waits.waits)
    (owner_claim (view_of c.args.goals.now) (view_of c.begin.new.goals) c.begin.ensures.grows.grows c.args.owner.number (claim_with c.args.asked.now.left c.args.asked.now.rights.now) c.requires.waits.there c.requires.claim) c.requires.last (rw c.in-Holds.is at c.in_ok-made.ensures.settled)
    (stands_grown c.args.asked.now.auto.now c.args.store.now c.args.goals.now c.begin.new.goals c.begin.ensures.grows.grows c.begin.ensures.grows.consistent c.requires.can.stands)))

pub hold-requires : goal.hold-requires
hold-requires c = omega (arith, c.begin.ensures.grows.grows.longer, c.requires.waits.there)

pub returns-in_ok-broken-in-Holds-clause-progresses : goal.returns-in_ok-broken-in-Holds-clause-progresses
returns-in_ok-broken-in-Holds-clause-progresses c =
    progresses-settled (whole_of (length c.args.asked.now.auto.now) c.begin.new.goals c.begin.ensures.grows.consistent) (held c) (Keeps-same c.args.store.now)
    (rw c.hold.ensures (same_held_by c.args.asked.now.auto.now c.args.store.now (view_of c.begin.new.goals) c.args.owner.number c.in-Holds.made.items c.in_ok-broken-in-Holds.broken.items (omega (arith, c.begin.ensures.grows.grows.longer, c.requires.waits.there)) (standing-grows (view_of c.args.goals.now) (view_of c.begin.new.goals) c.begin.ensures.grows.grows c.args.owner.number ∙ c.requires.waits.waits))) refl refl refl

pub returns-in_ok-broken-in-Holds-clause-settles : goal.returns-in_ok-broken-in-Holds-clause-settles
returns-in_ok-broken-in-Holds-clause-settles c = record { lowers = (held c).lowers; right = c.begin.ensures.grows.right }

pub returns-in-Separates-clause-settles : goal.returns-in-Separates-clause-settles
returns-in-Separates-clause-settles c =
    OnOk-map c.refute_at.result (λ h. record { lowers = lowers-grown (view_of c.args.goals.now) (view_of c.begin.new.goals) c.refute_at.new.goals.rows.items c.begin.ensures.grows.grows h.lowers; right = h.right }) c.refute_at.ensures.settles

pub returns-in-Separates-clause-progresses : goal.returns-in-Separates-clause-progresses
returns-in-Separates-clause-progresses c = progresses-then (progresses-grown c.requires.can.stands c.begin.ensures.grows) c.refute_at.ensures.progresses

pub returns-in_err-made-clause-progresses : goal.returns-in_err-made-clause-progresses
returns-in_err-made-clause-progresses c = progresses-grown c.requires.can.stands c.begin.ensures.grows

pub returns-in_err-broken-in-Holds-clause-progresses : goal.returns-in_err-broken-in-Holds-clause-progresses
returns-in_err-broken-in-Holds-clause-progresses c = progresses-grown c.requires.can.stands c.begin.ensures.grows

pub returns-in_err-made-clause-settles : goal.returns-in_err-made-clause-settles
returns-in_err-made-clause-settles c = OnOk-from_err c.from_residual.result _ c.from_residual.ensures.0

pub returns-in_err-broken-in-Holds-clause-settles : goal.returns-in_err-broken-in-Holds-clause-settles
returns-in_err-broken-in-Holds-clause-settles c = OnOk-from_err c.from_residual-in_err-broken-in-Holds.result _ c.from_residual-in_err-broken-in-Holds.ensures.0

pub begin-requires : goal.begin-requires
begin-requires c = can_begin (claim_with c.args.asked.now.left c.args.asked.now.rights.now) c.args.owner c.requires.can c.requires.waits c.requires.claim

pub refute_at-requires-clause-can : goal.refute_at-requires-clause-can
refute_at-requires-clause-can c = let now = progresses-grown c.requires.can.stands c.begin.ensures.grows in record { whole = now.whole; stands = now.stands; right = c.begin.ensures.grows.right }

pub refute_at-requires-clause-waits : goal.refute_at-requires-clause-waits
refute_at-requires-clause-waits c = waits_grown c.begin.ensures.grows c.requires.waits
