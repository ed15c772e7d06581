use Rattle.std.proofs.Common.{take, sym, ap, ◌∙◌, subst}
use Rattle.std.specs.List.{AllByRecursion}
use Rattle.xd_syntax.specs.Table.{CanFollow, form_tree, tree_at}
use Rattle.xd_syntax.specs.TreeForms.{alt_of}
use Rattle.xd_syntax.specs.Types.{BelongsTo, form_of}
use Rattle.xd_same_types.specs.Same.{trees}
use Rattle.xd_same_types.proofs.Tables.{alt_belong, alt_pieces, alt_tree}
use Rattle.xd_named_parts.specs.Copies.{TakesElements, TakesTexts}
use Rattle.xd_named_parts.proofs.any.takes_items.Goals as goal

pub some_takes_texts-requires : goal.some_takes_texts-requires
some_takes_texts-requires c =
    let rows = c.args.pool.now.types in
    let f = sym c.form.ensures ∙ ap form_of c.in-Alt.is in
    subst (AllByRecursion (BelongsTo rows)) (sym c.deref.ensures.value)
    (alt_belong rows c.in-Alt.parts.items (alt_pieces rows c.args.id.at c.in-Alt.parts.items (subst (λ x. CanFollow _ (take c.args.id.at rows) x) f c.node.ensures.merged)))

pub some_takes_elements-requires : goal.some_takes_elements-requires
some_takes_elements-requires c =
    let rows = c.args.pool.now.types in
    let f = sym c.form.ensures ∙ ap form_of c.in-Alt.is in
    subst (AllByRecursion (BelongsTo rows)) (sym c.deref-in-Alt.ensures.value)
    (alt_belong rows c.in-Alt.parts.items (alt_pieces rows c.args.id.at c.in-Alt.parts.items (subst (λ x. CanFollow _ (take c.args.id.at rows) x) f c.node.ensures.merged)))

pub returns-else-not-some_takes_texts-clause-texts : goal.returns-else-not-some_takes_texts-clause-texts
returns-else-not-some_takes_texts-clause-texts c = λ e.
    let rows = c.args.pool.now.types in
    let f = sym c.form.ensures ∙ ap form_of c.in-Alt.is in
    let it = subst (λ xs. TakesTexts (alt_of (trees rows xs))) c.deref.ensures.value (c.some_takes_texts.ensures c.if-not-some_takes_texts.false) in
    subst TakesTexts (alt_tree rows c.in-Alt.parts.items _ (c.node.ensures.tree ∙ ap (form_tree (tree_at rows)) f)) it

pub returns-else-not-some_takes_texts-clause-elements : goal.returns-else-not-some_takes_texts-clause-elements
returns-else-not-some_takes_texts-clause-elements c = λ e.
    let rows = c.args.pool.now.types in
    let f = sym c.form.ensures ∙ ap form_of c.in-Alt.is in
    let it = subst (λ xs. TakesElements (alt_of (trees rows xs))) c.deref-in-Alt.ensures.value (c.some_takes_elements.ensures e) in
    subst TakesElements (alt_tree rows c.in-Alt.parts.items _ (c.node.ensures.tree ∙ ap (form_tree (tree_at rows)) f)) it
