use Rattle.std.proofs.Common.{◌≡◌, ◌<◌, true, length, get_or, sym, subst, ap, ◌∙◌, take}
use Rattle.xd_syntax.specs.Table.{Row, CanFollow, PartsBelow, tree_at, form_tree}
use Rattle.xd_syntax.specs.PlacedTable.{placed_at, placed_form}
use Rattle.xd_syntax.proofs.Trees.{tree_is, follows_at, parts_at}
use Rattle.xd_syntax.proofs.PlacedTrees.{placed_is}
use Rattle.xd_syntax.proofs.patterns.Patterns.node.Goals as goal

pub returns : goal.returns
returns c =
    rw (← c.self.view_is)
    (let l : c.args.id.at < length c.self.inside.nodes.items = rw c.self.view_is c.requires in
    let e : get_or c.self.inside.nodes.items c.args.id.at c.index.result.now ≡ c.index.result.now = sym c.index.ensures in
    record {
      row = c.index.ensures;
      tree = tree_is true c.self.inside.nodes.items c.args.id.at c.index.result.now c.self.invariant.built l
          ∙ ap (λ (r : Row). form_tree (tree_at c.self.inside.nodes.items) r.form) e;
      placed = placed_is true c.self.inside.nodes.items c.args.id.at c.index.result.now c.self.invariant.built l
          ∙ ap (λ (r : Row). placed_form (placed_at c.self.inside.nodes.items) r.place r.form) e;
      parts = subst (λ (r : Row). PartsBelow c.args.id.at r.form) e (parts_at true c.self.inside.nodes.items c.args.id.at c.index.result.now c.self.invariant.built l);
      merged = subst (λ (r : Row). CanFollow true (take c.args.id.at c.self.inside.nodes.items) r.form) e
          (follows_at true c.self.inside.nodes.items c.args.id.at c.index.result.now c.self.invariant.built l);
    })
