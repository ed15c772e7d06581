use Rattle.std.proofs.Common.{inl, sym, ap, ◌∙◌}
use Rattle.xd_syntax.specs.Table.{form_tree, tree_at}
use Rattle.xd_syntax.specs.Types.{form_of}
use Rattle.xd_same_types.proofs.AltLaws.{choice_opt, choice_plain}
use Rattle.xd_same_types.proofs.Tables.{some_trees}
use Rattle.xd_same_types.proofs.alts.choice_of.Goals as goal

pub returns-in_ok-alt_parts-in-Opt-clause-fits : goal.returns-in_ok-alt_parts-in-Opt-clause-fits
returns-in_ok-alt_parts-in-Opt-clause-fits c =
    choice_opt _ _ _ (c.node.ensures.tree ∙ ap (form_tree (tree_at c.args.pool.now.types)) (sym c.form.ensures ∙ ap form_of c.in-Opt.is)) (some_trees c.args.pool.now.types _ c.in_ok-alt_parts-in-Opt.ensures.some) c.in_ok-alt_parts-in-Opt.ensures.tree

pub returns-in_ok-alt_parts-in_default : goal.returns-in_ok-alt_parts-in_default
returns-in_ok-alt_parts-in_default c = record {
  parts = c.in_ok-alt_parts-in_default.ensures.parts;
  some = inl c.in_ok-alt_parts-in_default.ensures.some;
  fits = choice_plain _ _ (some_trees c.args.pool.now.types _ c.in_ok-alt_parts-in_default.ensures.some) c.in_ok-alt_parts-in_default.ensures.tree;
}
