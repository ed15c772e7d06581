use Rattle.std.proofs.lemmas.Result.{IfOk-from_err}
use Rattle.std.proofs.Common.{sym, true, false, ◌∙◌}
use Rattle.xd_state_heads.specs.Moves.{claim_with}
use Rattle.xd_goals.specs.Kept.{view_of}
use Rattle.xd_goals.proofs.HasGrownLemmas.{grown-same}
use Rattle.xd_goals.proofs.IsTreeBySortLemmas.{case_can_grow, case_path, case_grown}
use Rattle.xd_goals.proofs.work.begin_case.Goals as goal

pub grow_text-requires-clause-path : goal.grow_text-requires-clause-path
grow_text-requires-clause-path c =
    case_path c.args.asked.now.auto.now c.args.owner (claim_with c.args.asked.now.left c.args.asked.now.rights.now) c.args.case.now.head c.args.case.now.atom c.args.case.now.content c.args.case.now.rest c.requires.case.has c.len.result c.len.ensures.value c.deref.result.now (c.deref.ensures.value ∙ c.in_ok-sides.ensures)
    c.len.ensures.closed c.requires.can.left c.requires.can.rights

pub returns-then-is_text-clause-grown : goal.returns-then-is_text-clause-grown
returns-then-is_text-clause-grown c =
    case_grown c.args.asked.now.auto.now c.args.owner (claim_with c.args.asked.now.left c.args.asked.now.rights.now) c.args.case.now.head c.args.case.now.atom c.args.case.now.content c.args.case.now.rest c.requires.case.has c.len.result c.len.ensures.value c.deref.result.now (c.deref.ensures.value ∙ c.in_ok-sides.ensures)
    c.requires.case.matched true (sym c.is_text.ensures ∙ c.if-is_text.true) c.args.store.now (view_of c.grow_text.new.goals) c.grow_text.result c.grow_text.ensures.grown

pub returns-clause-grown : goal.returns-clause-grown
returns-clause-grown c =
    case_grown c.args.asked.now.auto.now c.args.owner (claim_with c.args.asked.now.left c.args.asked.now.rights.now) c.args.case.now.head c.args.case.now.atom c.args.case.now.content c.args.case.now.rest c.requires.case.has c.len.result c.len.ensures.value c.deref-else-is_text.result.now (c.deref-else-is_text.ensures.value ∙ c.in_ok-sides.ensures)
    c.requires.case.matched false (sym c.is_text.ensures ∙ c.if-is_text.false) c.args.store.now (view_of c.grow.new.goals) c.grow.result c.grow.ensures.grown

pub returns-in_err-sides-clause-grown : goal.returns-in_err-sides-clause-grown
returns-in_err-sides-clause-grown c = IfOk-from_err c.from_residual.result _ c.from_residual.ensures.0

pub sides_of-requires : goal.sides_of-requires
sides_of-requires c = c.requires.can.rights

pub grow-requires : goal.grow-requires
grow-requires c =
    case_can_grow c.args.asked.now.auto.now c.args.owner (claim_with c.args.asked.now.left c.args.asked.now.rights.now) c.args.case.now.head c.args.case.now.atom c.args.case.now.content c.args.case.now.rest c.requires.case.has c.len.result c.len.ensures.value c.deref-else-is_text.result.now (c.deref-else-is_text.ensures.value ∙ c.in_ok-sides.ensures)
    c.len.ensures.closed c.requires.can

pub returns-clause-grows : goal.returns-clause-grows
returns-clause-grows c = rw c.len.ensures.value at c.grow.ensures.grows

pub returns-then-is_text-clause-grows : goal.returns-then-is_text-clause-grows
returns-then-is_text-clause-grows c = record { consistent = rw c.len.ensures.value at c.grow_text.ensures.consistent; grows = c.grow_text.ensures.grows; right = c.requires.can.right }

pub returns-in_err-sides-clause-grows : goal.returns-in_err-sides-clause-grows
returns-in_err-sides-clause-grows c = grown-same c.requires.can.consistent c.requires.can.right

pub grow_text-requires-clause-consistent : goal.grow_text-requires-clause-consistent
grow_text-requires-clause-consistent c = rw c.len.ensures.value c.requires.can.consistent

pub grow_text-requires-clause-owner : goal.grow_text-requires-clause-owner
grow_text-requires-clause-owner c = c.requires.can.owner
