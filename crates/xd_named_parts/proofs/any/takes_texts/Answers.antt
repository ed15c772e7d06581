use Rattle.std.proofs.Common.{sym, ap, ◌∙◌}
use Rattle.xd_syntax.specs.Table.{form_tree, tree_at}
use Rattle.xd_syntax.specs.Types.{form_of}
use Rattle.xd_named_parts.proofs.AnyLaws.{all_texts}
use Rattle.xd_named_parts.proofs.any.takes_texts.Goals as goal

pub returns-in-Text : goal.returns-in-Text
returns-in-Text c = λ _. all_texts _ (c.node.ensures.tree ∙ ap (form_tree (tree_at c.args.pool.now.types)) (sym c.form.ensures ∙ ap form_of c.in-Text.is))
