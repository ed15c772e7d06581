use Rattle.std.proofs.Common.{take, drop, sym, ap, ◌∙◌, subst}
use Rattle.xd_syntax.specs.Table.{IsSeqPart}
use Rattle.xd_syntax.specs.Tree.{seq_of}
use Rattle.xd_same_types.specs.Same.{AreSeqParts, trees}
use Rattle.xd_same_types.proofs.EndLaws.{all_drop, last_items, split_parts}
use Rattle.xd_same_types.proofs.Tables.{kept_seq_parts}
use Rattle.xd_same_types.proofs.ends.split_end.Goals as goal

pub seq_of-requires-2 : goal.seq_of-requires-2
seq_of-requires-2 c =
    let old = c.args.pool.now.types in
    let mid = c.seq_of.new.pool.types in
    let parts = c.in_ok-parts.parts.items in
    let k = c.saturating_sub-place.result in
    let last = last_items parts c.deref-2.result.now c.in_ok-from_slice-2.field-0.items k c.in_ok-from_slice-2.ensures.items c.deref-2.ensures.value in
    subst (AreSeqParts mid) (sym last) (kept_seq_parts old mid c.seq_of.ensures.keeps (drop k parts) (all_drop (λ id. IsSeqPart old id.at) k parts c.in_ok-parts.ensures.parts))

pub returns-clause-same : goal.returns-clause-same
returns-clause-same c =
    let old = c.args.pool.now.types in
    let mid = c.seq_of.new.pool.types in
    let parts = c.in_ok-parts.parts.items in
    let k = c.saturating_sub-place.result in
    let first = c.in_ok-from_slice.ensures.items ∙ ap (take k) c.deref.ensures.value in
    let last = last_items parts c.deref-2.result.now c.in_ok-from_slice-2.field-0.items k c.in_ok-from_slice-2.ensures.items c.deref-2.ensures.value in
    split_parts old mid c.seq_of-2.new.pool.types c.seq_of.ensures.keeps c.seq_of-2.ensures.keeps parts k c.args.id c.in_ok-ahead.ahead c.in_ok-end.end c.in_ok-parts.ensures.parts c.in_ok-parts.ensures.tree c.in_ok-ahead.ensures.belongs
    (c.in_ok-ahead.ensures.tree ∙ ap (λ xs. seq_of (trees old xs)) first) (c.in_ok-end.ensures.tree ∙ ap (λ xs. seq_of (trees mid xs)) last)
