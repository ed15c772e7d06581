use Rattle.std.proofs.Common.{◌≡◌, sym, ap, ◌∙◌, subst, arith}
use Rattle.xd_syntax.specs.Tree.{Elem, Alt}
use Rattle.xd_same_types.specs.Same.{MeansSame}
use Rattle.xd_syntax.specs.Table.{form_tree, tree_at}
use Rattle.xd_syntax.specs.Types.{form_of, tree}
use Rattle.xd_same_types.proofs.AltLaws.{united_elements}
use Rattle.xd_same_types.proofs.alts.common.Goals as goal

pub returns-clause-same : goal.returns-clause-same
returns-clause-same c =
    let rows = c.args.pool.now.types in
    let a = c.node.ensures.tree ∙ ap (form_tree (tree_at rows)) (sym c.form.ensures ∙ ap form_of c.in-Elem.is) in
    let b = c.node-2.ensures.tree ∙ ap (form_tree (tree_at rows)) (sym c.form-2.ensures ∙ ap form_of c.in-Elem-form.is) in
    let q : c.in-Elem.content.at ≡ c.in-Elem-form.inside.at = omega (arith, c.at.ensures, c.at-2.ensures, c.if-at.false) in
    let T = tree_at rows c.in-Elem.content.at in
    subst (λ x. MeansSame (Elem c.in_ok-both.both T) (Alt x (tree rows c.args.two))) (sym a)
    (subst (λ y. MeansSame (Elem c.in_ok-both.both T) (Alt (Elem c.in-Elem.class T) y)) (sym (b ∙ ap (λ n. Elem c.in-Elem-form.kind (tree_at rows n)) (sym q)))
    (united_elements c.in_ok-both.both c.in-Elem.class c.in-Elem-form.kind T c.in_ok-both.ensures))
