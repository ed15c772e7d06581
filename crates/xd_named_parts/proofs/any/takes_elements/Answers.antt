use Rattle.std.proofs.Common.{sym, ap, ◌∙◌}
use Rattle.xd_syntax.specs.Table.{form_tree, tree_at}
use Rattle.xd_syntax.specs.Types.{form_of, tree}
use Rattle.xd_named_parts.proofs.AnyLaws.{all_elements}
use Rattle.xd_named_parts.proofs.any.takes_elements.Goals as goal

pub returns-else-not-has_all_labels : goal.returns-else-not-has_all_labels
returns-else-not-has_all_labels c = λ e.
    let rows = c.args.pool.now.types in
    all_elements _ (tree rows c.in-Elem.content) c.in-Elem.class (c.node.ensures.tree ∙ ap (form_tree (tree_at rows)) (sym c.form.ensures ∙ ap form_of c.in-Elem.is))
    (sym c.has_all_labels.ensures ∙ c.if-not-has_all_labels.false) (c.is_any.ensures e)
