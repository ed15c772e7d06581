use Rattle.std.proofs.Common.{◌++◌, ◌∙◌, subst, sym}
use Rattle.xd_doc.proofs.StoredLemmas.{Keeps-same}
use Rattle.xd_auto.specs.Automaton.{IsState}
use Rattle.xd_goals.specs.Rows.{GoalRow, row_at, claim_of}
use Rattle.std.specs.List.{AllByRecursion, flat_map}
use Rattle.xd_rules.specs.Listed.{AreNames}
use Rattle.xd_state_heads.specs.Moves.{heads_of}
use Rattle.xd_state_heads.specs.Wants.{names_in}
use Rattle.xd_goals.specs.Kept.{view_of}
use Rattle.xd_goals.proofs.AreLinkedLemmas.{row_read}
use Rattle.xd_goals.proofs.Verdicts.{content_belongs, rest_belongs, separated_by}
use Rattle.xd_goals.proofs.work.separate.Goals as goal

pub begin_with-requires-clause-inside : goal.begin_with-requires-clause-inside
begin_with-requires-clause-inside c e =
    content_belongs c.args.auto.now c.args.store.now (view_of c.args.goals.now) c.requires.stands (claim_of (row_at c.args.goals.now.rows.items c.args.owner.number)) c.args.failure.now.atom c.args.failure.now.inside c.args.failure.now.behind c.requires.fails e

pub begin_with-requires-clause-behind : goal.begin_with-requires-clause-behind
begin_with-requires-clause-behind c =
    rest_belongs c.args.auto.now c.args.store.now (view_of c.args.goals.now) c.requires.stands (claim_of (row_at c.args.goals.now.rows.items c.args.owner.number)) c.args.failure.now.atom c.args.failure.now.inside c.args.failure.now.behind c.requires.fails

pub returns-clause-separated : goal.returns-clause-separated
returns-clause-separated c =
    let row = c.row.view_is ∙ row_read c.args.goals.now.rows.items c.args.owner.number _ c.requires.owner c.index-row.ensures in
    separated_by c.args.auto.now c.args.store.now c.begin_with.new.store (view_of c.args.goals.now) c.requires.stands (claim_of (row_at c.args.goals.now.rows.items c.args.owner.number))
    c.in_ok-unnamed.unnamed.labels c.in_ok-unnamed.unnamed.texts
    (subst (λ (r : GoalRow). AreNames (heads_of c.args.auto.now r.left ++ flat_map (heads_of c.args.auto.now) r.rights) (names_in c.in_ok-unnamed.unnamed.labels c.in_ok-unnamed.unnamed.texts)) row (rw c.deref.ensures.value at c.in_ok-unnamed.ensures.names)) c.in_ok-unnamed.ensures.labels c.in_ok-unnamed.ensures.texts
    c.args.failure.now.atom c.args.failure.now.inside c.args.failure.now.behind c.requires.fails c.begin_with.result c.begin_with.ensures.belongs c.begin_with.ensures.begins

pub unnamed_of-requires-clause-left : goal.unnamed_of-requires-clause-left
unnamed_of-requires-clause-left c =
    subst (λ (r : GoalRow). IsState c.args.auto.now r.left) (sym (c.row.view_is ∙ row_read c.args.goals.now.rows.items c.args.owner.number _ c.requires.owner c.index-row.ensures)) (c.requires.stands.facts.states.each c.args.owner.number c.requires.owner).left

pub unnamed_of-requires-clause-rights : goal.unnamed_of-requires-clause-rights
unnamed_of-requires-clause-rights c =
    rw c.deref.ensures.value (subst (λ (r : GoalRow). AllByRecursion (IsState c.args.auto.now) r.rights) (sym (c.row.view_is ∙ row_read c.args.goals.now.rows.items c.args.owner.number _ c.requires.owner c.index-row.ensures)) (c.requires.stands.facts.states.each c.args.owner.number c.requires.owner).rights)

pub returns-in_err-unnamed-clause-keeps : goal.returns-in_err-unnamed-clause-keeps
returns-in_err-unnamed-clause-keeps c = Keeps-same c.args.store.now

pub returns-clause-keeps : goal.returns-clause-keeps
returns-clause-keeps c = c.begin_with.ensures.keeps
