use Rattle.std.proofs.Common.{take, sym, ap, ◌∙◌, subst}
use Rattle.std.specs.List.{AllByRecursion}
use Rattle.xd_syntax.specs.Table.{CanFollow, form_tree, tree_at}
use Rattle.xd_syntax.specs.Tree.{seq_of}
use Rattle.xd_syntax.specs.Types.{BelongsTo, form_of}
use Rattle.xd_same_types.specs.Same.{trees}
use Rattle.xd_same_types.proofs.Tables.{seq_belong, seq_pieces, seq_tree}
use Rattle.xd_named_parts.specs.Copies.{TakesMore}
use Rattle.xd_named_parts.proofs.AnyLaws.{name_more}
use Rattle.xd_named_parts.proofs.any.part_takes_more.Goals as goal

pub row_takes_more-requires : goal.row_takes_more-requires
row_takes_more-requires c =
    let rows = c.args.pool.now.types in
    let f = sym c.form.ensures ∙ ap form_of c.in-Seq.is in
    subst (AllByRecursion (BelongsTo rows)) (sym c.deref.ensures.value)
    (seq_belong rows c.in-Seq.parts.items (seq_pieces rows c.args.id.at c.in-Seq.parts.items (subst (λ x. CanFollow _ (take c.args.id.at rows) x) f c.node.ensures.merged)))

pub returns-in-Seq : goal.returns-in-Seq
returns-in-Seq c = λ e.
    let rows = c.args.pool.now.types in
    let f = sym c.form.ensures ∙ ap form_of c.in-Seq.is in
    let it = subst (λ xs. TakesMore (seq_of (trees rows xs))) c.deref.ensures.value (c.row_takes_more.ensures e) in
    subst TakesMore (seq_tree rows c.in-Seq.parts.items _ (c.node.ensures.tree ∙ ap (form_tree (tree_at rows)) f)) it

pub returns-in_default : goal.returns-in_default
returns-in_default c = λ e. name_more _ (c.is_any.ensures e)
