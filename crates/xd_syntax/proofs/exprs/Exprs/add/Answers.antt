use Rattle.std.proofs.Common.{sym, subst}
use Rattle.xd_doc.proofs.Lists.{all_push}
use Rattle.xd_syntax.specs.ExpressionTable.{ExprCanFollow}
use Rattle.xd_syntax.specs.Exprs.{shape_of}
use Rattle.xd_syntax.proofs.ExprTrees.{ExprsAreBuilt-push, expression_new}
use Rattle.xd_syntax.proofs.exprs.Exprs.add.Goals as goal

pub invariant_of-self-2 : goal.invariant_of-self-2
invariant_of-self-2 c = rw c.in_ok-push.ensures.items
    (record {
      built = ExprsAreBuilt-push c.self.inside.nodes.items _ c.self.invariant.built (subst (λ rs. ExprCanFollow rs (shape_of c.args.form)) (sym c.self.view_is) c.requires);
      proper = all_push _ c.self.inside.nodes.items _ c.self.invariant.proper c.see_words.ensures;
    })

pub returns-clause-expression : goal.returns-clause-expression
returns-clause-expression c patterns =
    rw (c.in_ok-push.ensures.items, c.len-at.ensures, ← c.self.view_is) (expression_new patterns c.self.inside.nodes.items _)
