use Rattle.std.proofs.Common.{sym, ap, ◌∙◌}
use Rattle.xd_syntax.specs.Table.{form_tree, tree_at}
use Rattle.xd_syntax.specs.Types.{form_of}
use Rattle.xd_same_types.proofs.AltLaws.{star_empty}
use Rattle.xd_same_types.proofs.alts.is_optional.Goals as goal

pub returns-in-Star : goal.returns-in-Star
returns-in-Star c = λ _. star_empty _ _ (c.node.ensures.tree ∙ ap (form_tree (tree_at c.args.pool.now.types)) (sym c.form.ensures ∙ ap form_of c.in-Star.is))
