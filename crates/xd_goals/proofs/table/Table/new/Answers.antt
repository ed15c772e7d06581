use Rattle.std.proofs.Common.{◌≡◌, List, [], ap, subst, sym, ◌∙◌}
use Rattle.xd_goals.specs.Rows.{GoalRow, TableView, no_view}
use Rattle.xd_goals.specs.Facts.{KeepsLists}
use Rattle.xd_goals.specs.declared.table.ChoiceNode.{ChoiceNode}
use Rattle.xd_goals.specs.declared.table.Link.{Link}
use Rattle.xd_goals.proofs.GrowsByLemmas.{consistent_rows, consistent_links}
use Rattle.xd_goals.proofs.Itself.{lists_none, nodes_none}
use Rattle.xd_goals.proofs.table.Table.new.Goals as goal

nothing_there : (t : TableView) → t.rows ≡ [] → t.nodes ≡ [] → t.links ≡ [] → t ≡ no_view
nothing_there t e f g =
    ap (λ (rs : List GoalRow). let v : TableView = record { rows = rs; nodes = t.nodes; links = t.links } in v) e
    ∙ ap (λ (ns : List ChoiceNode). let v : TableView = record { rows = []; nodes = ns; links = t.links } in v) f
    ∙ ap (λ (ls : List Link). let v : TableView = record { rows = []; nodes = []; links = ls } in v) g

pub invariant_of-result : goal.invariant_of-result
invariant_of-result c = record {
  whole = record {
    index = consistent_rows _ _ c.new.ensures.rows c.new.ensures.found;
    links = consistent_links _ _ c.new.ensures.rows c.new.ensures.links;
    nodes = nodes_none _ _ c.new.ensures.nodes;
  };
  lists = subst KeepsLists (sym (nothing_there _ c.new.ensures.rows c.new.ensures.nodes c.new.ensures.links)) lists_none;
}
