use Rattle.std.proofs.Common.{◌≡◌, ◌++◌, take, ap, subst, ◌∙◌}
use Rattle.xd_syntax.specs.Table.{PartsBelow}
use Rattle.xd_syntax.specs.Types.{form_of}
use Rattle.xd_syntax.specs.PlacedTable.{placed_at, placed_form}
use Rattle.xd_syntax.specs.declared.types.TypeId.{TypeId}
use Rattle.xd_rec.specs.Uses.{parts_of, own_use, test_of}
use Rattle.xd_rec.proofs.uses.list_part.Goals as goal

pub returns : goal.returns
returns c =
    let k : c.of.result.at ≡ c.args.part.at = ap (λ (x : TypeId). x.at) c.of.ensures in
    let r = c.node-node.result.now in
    record {
      row = r;
      placed = subst (λ i. placed_at c.args.types.now i ≡ placed_form (placed_at c.args.types.now) r.place r.form) k c.node-node.ensures.placed;
      below = subst (λ i. PartsBelow i r.form) k c.node-node.ensures.parts;
      older = take c.of.result.at c.args.types.now;
      follows = c.node-node.ensures.merged;
      parts = c.in_ok-push_parts.ensures ∙ ap (λ f. c.args.parts.now.items ++ parts_of (test_of c.args.marks.now c.args.defs.now) c.args.types.now c.args.part f) c.form-2.ensures;
      uses = c.in_ok-list_name.ensures ∙ ap (λ p. c.args.uses.now.items ++ own_use c.args.part p (form_of c.form.result.now)) c.place.ensures
          ∙ ap (λ f. c.args.uses.now.items ++ own_use c.args.part r.place f) c.form.ensures;
    }
