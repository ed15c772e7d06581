use Rattle.std.proofs.Common.{◌≡◌, sym, ap, ◌∙◌, subst}
use Rattle.xd_doc.proofs.Options.{some_map}
use Rattle.xd_syntax.specs.Table.{form_tree, tree_at}
use Rattle.xd_syntax.specs.Tree.{Name}
use Rattle.xd_syntax.specs.Types.{form_of}
use Rattle.xd_syntax.specs.declared.types.TypeId.{TypeId}
use Rattle.xd_named_parts.specs.Copies.{IsMeantCopy}
use Rattle.xd_named_parts.proofs.CopyLaws.{node_by_name_grown}
use Rattle.xd_named_parts.proofs.copies.inner_copy.Goals as goal

pub returns-in-None-clause-copy : goal.returns-in-None-clause-copy
returns-in-None-clause-copy c =
    let given = c.args.given.now in
    let old = given.pool.types in
    let w = c.in-Name.word in
    let e : tree_at old c.args.number ≡ Name w = ap (λ (i : TypeId). tree_at old i.at) (sym c.of.ensures) ∙ c.node.ensures.tree ∙ ap (form_tree (tree_at old)) (sym c.form-form.ensures ∙ ap form_of c.in-Name.is) in
    some_map c.meant_copy.result _ _
    (λ id h. node_by_name_grown old given.names.items given.bodies.items c.args.number c.args.inner.now c.args.pool.now.types c.any_copy.new.pool.types w id e c.any_copy.ensures.keeps.rows c.requires.inner
    (subst (λ ws. IsMeantCopy ws given.bodies.items c.args.inner.now w id) c.deref.ensures.value (subst (λ bs. IsMeantCopy c.deref.result.now bs c.args.inner.now w id) c.deref-in-None.ensures.value h)))
    c.meant_copy.ensures
