use Rattle.std.proofs.Common.{◌<◌, length, Some, sym, ap, ◌∙◌, subst}
use Rattle.std.proofs.lemmas.Option.{slice_get-get_or}
use Rattle.xd_goals.specs.Rows.{TableView, NodeStands}
use Rattle.xd_goals.specs.declared.table.ChoiceNode.{ChoiceNode}
use Rattle.xd_goals.proofs.table.Table.choice_node.Goals as goal

-- src/table.rt:196:5
pub returns-clause-stands : goal.returns-clause-stands
returns-clause-stands c =
    let inside : c.args.number < length c.self.inside.goals.nodes.items = subst (λ (t : TableView). c.args.number < length t.nodes) (sym c.self.view_is) c.requires in
    subst (λ (t : TableView). NodeStands (length t.rows) c.args.number c.index.result.now) c.self.view_is
    (c.self.invariant.whole.nodes.each c.args.number c.index.result.now
    (slice_get-get_or c.self.inside.goals.nodes.items c.args.number c.index.result.now inside
    ∙ ap (λ (n : ChoiceNode). Some n) (sym c.index.ensures)))
