use Rattle.std.proofs.lemmas.Result.{IfOk-from_err}
use Rattle.std.proofs.Common.{length, sym, true, false, ◌∙◌}
use Rattle.xd_state_heads.specs.Moves.{claim_with, heads_of}
use Rattle.xd_goals.specs.Kept.{view_of}
use Rattle.xd_goals.specs.Rows.{IsRefuted}
use Rattle.xd_goals.proofs.IsWalkedLemmas.{leaf_within, open_leaves}
use Rattle.xd_goals.proofs.HasGrownLemmas.{grown-same}
use Rattle.xd_goals.proofs.IsTreeBySortLemmas.{case_can_grow, case_path, case_grown, case_tree, head_within, leaves_there, same_head}
use Rattle.xd_goals.proofs.work.mend_choice.Goals as goal

pub is_broken-requires-clause-tree : goal.is_broken-requires-clause-tree
is_broken-requires-clause-tree c =
    let h = leaves_there c.args.asked.now.auto.now (view_of c.args.goals.now) c.args.owner (claim_with c.args.asked.now.left c.args.asked.now.rights.now) c.args.choice.now c.requires.choice in
    rw c.deref.ensures.value (h.tree, h.stands)

pub is_broken-requires-clause-within : goal.is_broken-requires-clause-within
is_broken-requires-clause-within c =
    let h = leaves_there c.args.asked.now.auto.now (view_of c.args.goals.now) c.args.owner (claim_with c.args.asked.now.left c.args.asked.now.rights.now) c.args.choice.now c.requires.choice in
    rw (c.deref.ensures.value, c.deref-2.ensures.value) (leaf_within c.args.goals.now.nodes.items (length c.args.goals.now.rows.items) c.args.choice.now.root h)

pub returns-then-not-is_broken-clause-grown : goal.returns-then-not-is_broken-clause-grown
returns-then-not-is_broken-clause-grown c = record {
  stands = c.requires.choice;
  opens = open_leaves c.args.goals.now.nodes.items (λ g. ¬ (IsRefuted c.args.goals.now.rows.items g)) c.args.choice.now (rw (c.deref.ensures.value, c.deref-2.ensures.value) at (c.is_broken.ensures c.if-not-is_broken.true));
}

pub head_of-requires-clause-positive : goal.head_of-requires-clause-positive
head_of-requires-clause-positive c = (head_within (heads_of c.args.asked.now.auto.now c.args.asked.now.left) c.args.choice.now.head c.requires.choice.head c.requires.choice.found).0

pub head_of-requires-clause-within : goal.head_of-requires-clause-within
head_of-requires-clause-within c = (head_within (heads_of c.args.asked.now.auto.now c.args.asked.now.left) c.args.choice.now.head c.requires.choice.head c.requires.choice.found).1

pub grow_text-requires-clause-path : goal.grow_text-requires-clause-path
grow_text-requires-clause-path c =
    case_path c.args.asked.now.auto.now c.args.owner (claim_with c.args.asked.now.left c.args.asked.now.rights.now) c.args.choice.now.head c.args.choice.now.atom c.head_of.result.0 c.head_of.result.1 c.head_of.ensures c.len.result c.len.ensures.value c.deref-then-is_text.result.now (c.deref-then-is_text.ensures.value ∙ c.in_ok-sides.ensures)
    c.len.ensures.closed c.requires.can.left c.requires.can.rights

pub returns-then-is_text-clause-grown : goal.returns-then-is_text-clause-grown
returns-then-is_text-clause-grown c =
    case_grown c.args.asked.now.auto.now c.args.owner (claim_with c.args.asked.now.left c.args.asked.now.rights.now) c.args.choice.now.head c.args.choice.now.atom c.head_of.result.0 c.head_of.result.1 c.head_of.ensures c.len.result c.len.ensures.value c.deref-then-is_text.result.now (c.deref-then-is_text.ensures.value ∙ c.in_ok-sides.ensures)
    (same_head c.args.asked.now.auto.now c.args.owner (claim_with c.args.asked.now.left c.args.asked.now.rights.now) (view_of c.args.goals.now) c.args.choice.now c.head_of.result.0 c.head_of.result.1 c.requires.choice c.head_of.ensures) true (sym c.is_text.ensures ∙ c.if-is_text.true) c.args.store.now (view_of c.grow_text.new.goals) c.grow_text.result c.grow_text.ensures.grown

pub repair-requires-clause-tree : goal.repair-requires-clause-tree
repair-requires-clause-tree c =
    case_tree c.args.asked.now.auto.now c.args.owner (claim_with c.args.asked.now.left c.args.asked.now.rights.now) c.args.choice.now.head c.args.choice.now.atom c.head_of.result.0 c.head_of.result.1 c.head_of.ensures c.len.result c.len.ensures.value c.deref-else-is_text.result.now (c.deref-else-is_text.ensures.value ∙ c.in_ok-sides.ensures)
    false (sym c.is_text.ensures ∙ c.if-is_text.false) (view_of c.args.goals.now) c.args.choice.now.root c.requires.choice

pub returns-clause-grown : goal.returns-clause-grown
returns-clause-grown c =
    case_grown c.args.asked.now.auto.now c.args.owner (claim_with c.args.asked.now.left c.args.asked.now.rights.now) c.args.choice.now.head c.args.choice.now.atom c.head_of.result.0 c.head_of.result.1 c.head_of.ensures c.len.result c.len.ensures.value c.deref-else-is_text.result.now (c.deref-else-is_text.ensures.value ∙ c.in_ok-sides.ensures)
    (same_head c.args.asked.now.auto.now c.args.owner (claim_with c.args.asked.now.left c.args.asked.now.rights.now) (view_of c.args.goals.now) c.args.choice.now c.head_of.result.0 c.head_of.result.1 c.requires.choice c.head_of.ensures) false (sym c.is_text.ensures ∙ c.if-is_text.false) c.args.store.now (view_of c.repair.new.goals) c.repair.result c.repair.ensures.grown

pub head_of-requires-clause-left : goal.head_of-requires-clause-left
head_of-requires-clause-left c = c.requires.can.left

pub returns-in_err-sides-clause-grown : goal.returns-in_err-sides-clause-grown
returns-in_err-sides-clause-grown c = IfOk-from_err c.from_residual.result _ c.from_residual.ensures.0

pub sides_of-requires : goal.sides_of-requires
sides_of-requires c = c.requires.can.rights

pub repair-requires-clause-can : goal.repair-requires-clause-can
repair-requires-clause-can c =
    case_can_grow c.args.asked.now.auto.now c.args.owner (claim_with c.args.asked.now.left c.args.asked.now.rights.now) c.args.choice.now.head c.args.choice.now.atom c.head_of.result.0 c.head_of.result.1 c.head_of.ensures c.len.result c.len.ensures.value c.deref-else-is_text.result.now (c.deref-else-is_text.ensures.value ∙ c.in_ok-sides.ensures)
    c.len.ensures.closed c.requires.can

pub returns-clause-grows : goal.returns-clause-grows
returns-clause-grows c = rw c.len.ensures.value at c.repair.ensures.grows

pub returns-then-is_text-clause-grows : goal.returns-then-is_text-clause-grows
returns-then-is_text-clause-grows c = record { consistent = rw c.len.ensures.value at c.grow_text.ensures.consistent; grows = c.grow_text.ensures.grows; right = c.requires.can.right }

pub returns-in_err-sides-clause-grows : goal.returns-in_err-sides-clause-grows
returns-in_err-sides-clause-grows c = grown-same c.requires.can.consistent c.requires.can.right

pub returns-then-not-is_broken-clause-grows : goal.returns-then-not-is_broken-clause-grows
returns-then-not-is_broken-clause-grows c = grown-same c.requires.can.consistent c.requires.can.right

pub grow_text-requires-clause-consistent : goal.grow_text-requires-clause-consistent
grow_text-requires-clause-consistent c = rw c.len.ensures.value c.requires.can.consistent

pub grow_text-requires-clause-owner : goal.grow_text-requires-clause-owner
grow_text-requires-clause-owner c = c.requires.can.owner
