use Rattle.std.proofs.Common.{sym, ap, ◌∙◌}
use Rattle.xd_syntax.specs.Table.{form_tree, tree_at}
use Rattle.xd_syntax.specs.Types.{form_of}
use Rattle.xd_same_types.proofs.StarLaws.{strip_none, strip_star, strip_plus, strip_opt}
use Rattle.xd_same_types.proofs.stars.stripped.Goals as goal

pub returns-in-Star-clause-same : goal.returns-in-Star-clause-same
returns-in-Star-clause-same c = strip_star _ _ (c.node.ensures.tree ∙ ap (form_tree (tree_at c.args.pool.now.types)) (sym c.form.ensures ∙ ap form_of c.in-Star.is))

pub returns-in-Plus-clause-same : goal.returns-in-Plus-clause-same
returns-in-Plus-clause-same c = strip_plus _ _ (c.node.ensures.tree ∙ ap (form_tree (tree_at c.args.pool.now.types)) (sym c.form.ensures ∙ ap form_of c.in-Plus.is))

pub returns-in-Opt-clause-same : goal.returns-in-Opt-clause-same
returns-in-Opt-clause-same c = strip_opt _ _ (c.node.ensures.tree ∙ ap (form_tree (tree_at c.args.pool.now.types)) (sym c.form.ensures ∙ ap form_of c.in-Opt.is))

pub returns-in_default : goal.returns-in_default
returns-in_default c = record { same = strip_none _; belongs = c.requires }
