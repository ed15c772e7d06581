use Rattle.std.proofs.Common.{take, sym, ap, ◌∙◌, subst}
use Rattle.std.specs.List.{AllByRecursion}
use Rattle.xd_syntax.specs.Table.{CanFollow, form_tree, tree_at}
use Rattle.xd_syntax.specs.Types.{BelongsTo, form_of, tree}
use Rattle.xd_same_types.specs.Same.{CanBeEmpty}
use Rattle.xd_same_types.proofs.AltLaws.{seq_parts_empty}
use Rattle.xd_same_types.proofs.Tables.{seq_belong, seq_pieces, seq_tree}
use Rattle.xd_same_types.proofs.alts.is_plainly_empty.Goals as goal

pub all_optional-requires : goal.all_optional-requires
all_optional-requires c =
    let rows = c.args.pool.now.types in
    let f = sym c.form.ensures ∙ ap form_of c.in-Seq.is in
    subst (AllByRecursion (BelongsTo rows)) (sym c.deref.ensures.value)
    (seq_belong rows c.in-Seq.parts.items (seq_pieces rows c.args.id.at c.in-Seq.parts.items (subst (λ x. CanFollow _ (take c.args.id.at rows) x) f c.node.ensures.merged)))

pub returns-in-Seq : goal.returns-in-Seq
returns-in-Seq c = λ e.
    let rows = c.args.pool.now.types in
    let f = sym c.form.ensures ∙ ap form_of c.in-Seq.is in
    let all = subst (AllByRecursion (λ id. CanBeEmpty (tree rows id))) c.deref.ensures.value (c.all_optional.ensures e) in
    subst CanBeEmpty (seq_tree rows c.in-Seq.parts.items _ (c.node.ensures.tree ∙ ap (form_tree (tree_at rows)) f)) (seq_parts_empty rows c.in-Seq.parts.items all)
