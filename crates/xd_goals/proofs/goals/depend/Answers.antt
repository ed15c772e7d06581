use Rattle.std.proofs.Common.{ap, subst, refl, ◌∙◌, rules, ℕ, Option}
use Rattle.xd_goals.specs.Kept.{view_of}
use Rattle.xd_state_heads.specs.Moves.{IsInOrder}
use Rattle.xd_goals.specs.Rows.{GoalRow, Leads}
use Rattle.xd_goals.proofs.GrowsByLemmas.{Grows-same, Leads-begins}
use Rattle.xd_goals.proofs.AreLinkedLemmas.{linked_now, row_read, IsLinkedNow}
use Rattle.xd_goals.proofs.Itself.{nodes_longer}
use Rattle.xd_goals.proofs.goals.depend.Goals as goal

pub returns-then-begins_with-clause-listed : goal.returns-then-begins_with-clause-listed
returns-then-begins_with-clause-listed c =
    subst (λ (o : Option ℕ). Leads c.args.goals.now.links.items c.args.owner o)
    (ap (λ (r : GoalRow). r.dependents) (c.row.view_is ∙ row_read c.args.goals.now.rows.items c.args.on.number c.index-row.result.now c.requires.on c.index-row.ensures))
    (rw c.deref.ensures.value at (Leads-begins c.deref.result.now c.row.inside.dependents c.args.owner (c.if-begins_with.ensures refl)))

linked : (c : goal.After-set_dependents) → IsLinkedNow IsInOrder c.args.goals.now.rows.items c.args.goals.now.nodes.items c.args.goals.now.links.items c.args.on.number c.args.owner c.set_dependents.new.rows.items c.push.new.self.items
linked c =
    linked_now c.args.goals.now.rows.items c.args.goals.now.nodes.items c.args.goals.now.links.items c.args.on.number c.args.owner c.requires.on
    c.set_dependents.new.rows.items c.push.new.self.items c.len-link.result c.row.inside.dependents (search rules)
    (ap (λ (r : GoalRow). r.dependents) (c.row.view_is ∙ row_read c.args.goals.now.rows.items c.args.on.number c.index-row.result.now c.requires.on c.index-row.ensures))
    c.set_dependents.ensures c.in_ok-push.ensures.items

pub returns-clause-consistent : goal.returns-clause-consistent
returns-clause-consistent c = record { states = (linked c).states c.args.states c.requires.consistent.states; index = (linked c).index c.args.goals.now.found c.requires.consistent.index; links = (linked c).linked c.requires.owner c.requires.consistent.links; nodes = nodes_longer c.args.goals.now.rows.items c.set_dependents.new.rows.items c.args.goals.now.nodes.items (linked c).grows.longer c.requires.consistent.nodes }

pub returns-clause-grows : goal.returns-clause-grows
returns-clause-grows c = (linked c).grows

pub returns-clause-listed : goal.returns-clause-listed
returns-clause-listed c = (linked c).listed

pub returns-then-begins_with-clause-grows : goal.returns-then-begins_with-clause-grows
returns-then-begins_with-clause-grows c = Grows-same (view_of c.args.goals.now)
