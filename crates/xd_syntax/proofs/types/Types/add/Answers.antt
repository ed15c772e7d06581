use Rattle.std.proofs.Common.{false, sym, subst}
use Rattle.xd_doc.proofs.Lists.{all_push}
use Rattle.xd_syntax.specs.Table.{CanFollow}
use Rattle.xd_syntax.specs.Types.{form_of}
use Rattle.xd_syntax.proofs.Trees.{AreBuilt-push, tree_new}
use Rattle.xd_syntax.proofs.PlacedTrees.{placed_new}
use Rattle.xd_syntax.proofs.types.Types.add.Goals as goal

pub invariant_of-self-2 : goal.invariant_of-self-2
invariant_of-self-2 c = rw c.in_ok-push.ensures.items
    (record {
      built = AreBuilt-push false c.self.inside.nodes.items _ c.self.invariant.built (subst (λ rs. CanFollow false rs (form_of c.args.form)) (sym c.self.view_is) c.requires);
      proper = all_push _ c.self.inside.nodes.items _ c.self.invariant.proper c.see_words.ensures;
    })

pub returns-clause-tree : goal.returns-clause-tree
returns-clause-tree c =
    rw (c.in_ok-push.ensures.items, c.len-at.ensures, ← c.self.view_is) (tree_new c.self.inside.nodes.items _)

pub returns-clause-placed : goal.returns-clause-placed
returns-clause-placed c =
    rw (c.in_ok-push.ensures.items, c.len-at.ensures, ← c.self.view_is) (placed_new c.self.inside.nodes.items _)
