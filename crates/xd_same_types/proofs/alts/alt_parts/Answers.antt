use Rattle.std.proofs.Common.{◌≡◌, take, length, arith, sym, ap, ◌∙◌, subst}
use Rattle.xd_syntax.specs.Table.{CanFollow, form_tree, tree_at}
use Rattle.xd_syntax.specs.TreeForms.{alt_of}
use Rattle.xd_syntax.specs.Types.{form_of}
use Rattle.xd_same_types.specs.Same.{AreAltParts, trees}
use Rattle.xd_same_types.proofs.Ids.{ok_map}
use Rattle.xd_same_types.proofs.Tables.{alt_tree, alt_pieces, other_alt_part}
use Rattle.xd_same_types.proofs.alts.alt_parts.Goals as goal

pub returns-in_ok-from_slice-in-Alt-clause-parts : goal.returns-in_ok-from_slice-in-Alt-clause-parts
returns-in_ok-from_slice-in-Alt-clause-parts c =
    let rows = c.args.pool.now.types in
    let e : c.in_ok-from_slice-in-Alt.field-0.items ≡ c.in-Alt.pieces.items = c.in_ok-from_slice-in-Alt.ensures.items ∙ c.deref.ensures.value in
    let f = sym c.form.ensures ∙ ap form_of c.in-Alt.is in
    subst (AreAltParts rows) (sym e) (alt_pieces rows c.args.id.at c.in-Alt.pieces.items (subst (λ x. CanFollow _ (take c.args.id.at rows) x) f c.node.ensures.merged))

pub returns-in_ok-from_slice-in-Alt-clause-tree : goal.returns-in_ok-from_slice-in-Alt-clause-tree
returns-in_ok-from_slice-in-Alt-clause-tree c =
    let rows = c.args.pool.now.types in
    let e : c.in_ok-from_slice-in-Alt.field-0.items ≡ c.in-Alt.pieces.items = c.in_ok-from_slice-in-Alt.ensures.items ∙ c.deref.ensures.value in
    let f = sym c.form.ensures ∙ ap form_of c.in-Alt.is in
    ap (λ xs. alt_of (trees rows xs)) e ∙ alt_tree rows c.in-Alt.pieces.items _ (c.node.ensures.tree ∙ ap (form_tree (tree_at rows)) f)

pub returns-in_default : goal.returns-in_default
returns-in_default c =
    let rows = c.args.pool.now.types in
    let part = other_alt_part rows c.args.id c.form.result.now c.requires (c.node.ensures.tree ∙ ap (form_tree (tree_at rows)) (sym c.form.ensures))
    (subst (λ x. CanFollow _ (take c.args.id.at rows) x) (sym c.form.ensures) c.node.ensures.merged) c.in_default.not-Alt in
    record {
      parts = ok_map c.one_part.result _ _ (λ p e. subst (AreAltParts rows) (sym e) (part, tt)) c.one_part.ensures;
      some = ok_map c.one_part.result _ _ (λ p e. let l : length p.items ≡ 1 = ap length e in omega arith) c.one_part.ensures;
      tree = ok_map c.one_part.result _ _ (λ p e. ap (λ xs. alt_of (trees rows xs)) e) c.one_part.ensures;
    }
