use Rattle.std.proofs.Common.{◌++◌, ◌∷◌, [], take, sym, ap, ◌∙◌, subst}
use Rattle.xd_doc.proofs.Lists.{all_push, all_take}
use Rattle.xd_syntax.specs.Tree.{seq_of}
use Rattle.xd_same_types.specs.Same.{AreSeqParts, EndsRepeated, MeansSame, trees}
use Rattle.xd_same_types.proofs.SeqLaws.{repeated_last, plus_part}
use Rattle.xd_same_types.proofs.Tables.{kept_seq_parts}
use Rattle.xd_same_types.proofs.seqs.gather_back.Goals as goal

pub returns-clause-same : goal.returns-clause-same
returns-clause-same c =
    let rows = c.args.pool.now.types in
    let new = c.node.new.pool.types in
    let parts = c.args.parts.now.items in
    let k = c.in-Some.place in
    let r = subst (λ xs. EndsRepeated rows xs k) c.deref.ensures.value c.in-Some.ensures in
    let e = c.in_ok-push.ensures.items ∙ ap (λ xs. xs ++ c.in_ok-plus.plus ∷ []) c.truncate.ensures.items in
    subst (λ xs. MeansSame (seq_of (trees new xs)) (seq_of (trees rows parts))) (sym e)
    (repeated_last rows new c.node.ensures.keeps parts k c.index-star.result.now c.in-Some-star_of.body c.in_ok-plus.plus c.requires r c.index-star.ensures c.in-Some-star_of.ensures.star c.in_ok-plus.ensures.tree)

pub returns-clause-parts : goal.returns-clause-parts
returns-clause-parts c =
    let rows = c.args.pool.now.types in
    let new = c.node.new.pool.types in
    let parts = c.args.parts.now.items in
    let k = c.in-Some.place in
    let e = c.in_ok-push.ensures.items ∙ ap (λ xs. xs ++ c.in_ok-plus.plus ∷ []) c.truncate.ensures.items in
    subst (AreSeqParts new) (sym e)
    (all_push _ (take k parts) c.in_ok-plus.plus (kept_seq_parts rows new c.node.ensures.keeps (take k parts) (all_take _ k parts c.requires)) (plus_part new c.in_ok-plus.plus _ c.in_ok-plus.ensures.belongs c.in_ok-plus.ensures.tree))
