use Rattle.std.proofs.Common.{◌≡◌, ◌<◌, length, get_or, sym, subst, ap, ◌∙◌, take}
use Rattle.std.proofs.lemmas.List.{get_or_default}
use Rattle.xd_syntax.specs.ExpressionTable.{empty_shape, ExprRow, ExprCanFollow, ExprPartsBelow, ShapePatternsBelong, expression_at, shape_expression}
use Rattle.xd_syntax.specs.PlacedTable.{placed_at, the_start}
use Rattle.xd_syntax.proofs.ExprTrees.{expression_is, follows_at, parts_at, patterns_at}
use Rattle.xd_syntax.proofs.exprs.Exprs.node.Goals as goal

pub returns : goal.returns
returns c =
    rw (← c.self.view_is)
    (let l : c.args.id.at < length c.self.inside.nodes.items = rw c.self.view_is c.requires in
    let e : get_or c.self.inside.nodes.items c.args.id.at c.index.result.now ≡ c.index.result.now = sym c.index.ensures in
    record {
      expression = λ patterns. expression_is patterns c.self.inside.nodes.items c.args.id.at c.index.result.now c.self.invariant.built l
          ∙ ap (λ (r : ExprRow). shape_expression (placed_at patterns) (expression_at patterns c.self.inside.nodes.items) r.place r.form) e;
      row = ap (λ (r : ExprRow). r.form) (get_or_default c.self.inside.nodes.items c.args.id.at (record { place = the_start; form = empty_shape }) c.index.result.now l ∙ e);
      parts = subst (λ (r : ExprRow). ExprPartsBelow c.args.id.at r.form) e (parts_at c.self.inside.nodes.items c.args.id.at c.index.result.now c.self.invariant.built l);
      merged = subst (λ (r : ExprRow). ExprCanFollow (take c.args.id.at c.self.inside.nodes.items) r.form) e
          (follows_at c.self.inside.nodes.items c.args.id.at c.index.result.now c.self.invariant.built l);
      clauses = λ n b. subst (λ (r : ExprRow). ShapePatternsBelong n r.form) e (patterns_at n c.self.inside.nodes.items c.args.id.at c.index.result.now b l);
    })
