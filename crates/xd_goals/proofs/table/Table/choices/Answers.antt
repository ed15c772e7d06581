use Rattle.std.proofs.Common.{◌≡◌, ◌<◌, List, length, sym, ap, ◌∙◌, subst}
use Rattle.std.specs.List.{AllByRecursion}
use Rattle.xd_goals.specs.Rows.{GoalRow, TableView, HasRoot, row_at}
use Rattle.xd_goals.specs.Kept.{view_of}
use Rattle.xd_goals.specs.declared.table.Choice.{Choice}
use Rattle.xd_goals.proofs.AreLinkedLemmas.{row_read}
use Rattle.xd_goals.proofs.Itself.{roots_kept}
use Rattle.xd_goals.proofs.table.Table.choices.Goals as goal

-- src/table.rt:185:5
pub returns-clause-roots : goal.returns-clause-roots
returns-clause-roots c =
    let t : TableView = view_of c.self.inside.goals in
    let inside : c.args.goal.number < length t.rows = subst (λ (s : TableView). c.args.goal.number < length s.rows) (sym c.self.view_is) c.requires in
    let read : c.as_slice.result.now ≡ (row_at t.rows c.args.goal.number).choices =
    c.as_slice.ensures.value ∙ ap (λ (r : GoalRow). r.choices) (c.row.view_is ∙ row_read t.rows c.args.goal.number c.index-row.result.now inside c.index-row.ensures) in
    subst (λ (s : TableView). AllByRecursion (HasRoot s.nodes) c.as_slice.result.now) c.self.view_is
    (subst (λ (ks : List Choice). AllByRecursion (HasRoot t.nodes) ks) (sym read) (roots_kept t c.self.invariant.lists c.args.goal.number))
