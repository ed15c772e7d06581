use Rattle.std.proofs.Common.{◌≡◌, ap, ◌∙◌, Some}
use Rattle.xd_syntax.specs.Tree.{Elem}
use Rattle.xd_syntax.specs.Table.{tree_at}
use Rattle.xd_named_parts.specs.Copies.{copy_in}
use Rattle.xd_named_parts.proofs.CopyLaws.{elem_is}
use Rattle.xd_named_parts.proofs.forms.elem_copy.Goals as goal

pub returns-in_ok-node-in-Some-clause-copy : goal.returns-in_ok-node-in-Some-clause-copy
returns-in_ok-node-in-Some-clause-copy c = λ tops.
    let mid = c.args.pool.now.types in
    let id = c.in-Some.id in
    let e : copy_in c.args.inner.now c.args.content.at ≡ Some id = cc in
    elem_is tops c.args.inner.now mid c.node.new.pool.types c.in_ok-node-in-Some.field-0 c.in_ok-node-in-Some.ensures.belongs c.args.class.now c.args.content.at id e
    (c.in_ok-node-in-Some.ensures.tree ∙ ap (λ k. Elem k (tree_at mid id.at)) c.in_ok-share-in-Some.ensures.same)
