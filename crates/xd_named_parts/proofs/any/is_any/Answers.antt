use Rattle.std.proofs.Common.{sym, ap, ◌∙◌}
use Rattle.xd_syntax.specs.Table.{form_tree, tree_at}
use Rattle.xd_syntax.specs.Tree.{Name}
use Rattle.xd_syntax.specs.Types.{form_of}
use Rattle.xd_named_parts.proofs.any.is_any.Goals as goal

pub returns-in-Name : goal.returns-in-Name
returns-in-Name c = λ e. c.node.ensures.tree ∙ ap (form_tree (tree_at c.args.pool.now.types)) (sym c.form.ensures ∙ ap form_of c.in-Name.is) ∙ ap Name (c.is_any_word.ensures e)
