use Rattle.std.proofs.Common.{false, take, sym, ap, ◌∙◌, subst}
use Rattle.xd_syntax.specs.Table.{CanFollow, form_tree, tree_at}
use Rattle.xd_same_types.proofs.Tables.{other_alt_part}
use Rattle.xd_named_parts.proofs.forms.is_alt_part.Goals as goal

pub returns-in_default : goal.returns-in_default
returns-in_default c = λ _.
    let rows = c.args.pool.now.types in
    other_alt_part rows c.args.id c.form.result.now c.requires (c.node.ensures.tree ∙ ap (form_tree (tree_at rows)) (sym c.form.ensures))
    (subst (λ x. CanFollow false (take c.args.id.at rows) x) (sym c.form.ensures) c.node.ensures.merged) c.in_default.not-Alt
