use Rattle.std.proofs.Common.{take, sym, ap, ◌∙◌, subst}
use Rattle.std.specs.List.{AllByRecursion}
use Rattle.xd_syntax.specs.Table.{CanFollow, form_tree, tree_at}
use Rattle.xd_syntax.specs.TreeForms.{alt_of}
use Rattle.xd_syntax.specs.Types.{BelongsTo, form_of}
use Rattle.xd_same_types.specs.Same.{trees}
use Rattle.xd_same_types.proofs.Tables.{alt_belong, alt_pieces, alt_tree}
use Rattle.xd_named_parts.specs.Copies.{TakesMore}
use Rattle.xd_named_parts.proofs.any.takes_more.Goals as goal

pub some_takes_more-requires : goal.some_takes_more-requires
some_takes_more-requires c =
    let rows = c.args.pool.now.types in
    let f = sym c.form.ensures ∙ ap form_of c.in-Alt.is in
    subst (AllByRecursion (BelongsTo rows)) (sym c.deref.ensures.value)
    (alt_belong rows c.in-Alt.parts.items (alt_pieces rows c.args.id.at c.in-Alt.parts.items (subst (λ x. CanFollow _ (take c.args.id.at rows) x) f c.node.ensures.merged)))

pub returns-in-Alt : goal.returns-in-Alt
returns-in-Alt c = λ e.
    let rows = c.args.pool.now.types in
    let f = sym c.form.ensures ∙ ap form_of c.in-Alt.is in
    let it = subst (λ xs. TakesMore (alt_of (trees rows xs))) c.deref.ensures.value (c.some_takes_more.ensures e) in
    subst TakesMore (alt_tree rows c.in-Alt.parts.items _ (c.node.ensures.tree ∙ ap (form_tree (tree_at rows)) f)) it
