use Rattle.std.proofs.Common.{rules, ◌≡◌, ◌-◌, true, length, arith}
use Rattle.xd_doc.proofs.Lists.{all_take}
use Rattle.xd_same_types.proofs.Ids.{end_of}
use Rattle.xd_same_types.proofs.SeqLaws.{gathered}
use Rattle.xd_same_types.proofs.Tables.{kept_seq_parts}
use Rattle.xd_same_types.proofs.seqs.gather.Goals as goal

pub returns-in_err-plus-clause-parts : goal.returns-in_err-plus-clause-parts
returns-in_err-plus-clause-parts c = kept_seq_parts _ _ c.node.ensures.keeps c.args.parts.now.items c.requires.parts

pub returns-clause-same : goal.returns-clause-same
returns-clause-same c =
    let yes : c.ends_with.result ≡ true = search rules in
    let k = c.len-2.result - c.len-3.result in
    let at : k ≡ length c.args.parts.now.items - length c.in_ok-inner.inner.items = omega (arith, c.len-2.ensures, c.len-3.ensures, c.args.parts.now.ok.0, c.in_ok-inner.inner.ok.0) in
    let e = end_of c.args.parts.now.items c.in_ok-inner.inner.items c.deref.result.now c.deref-else-len-lt2.result.now k c.deref.ensures.value c.deref-else-len-lt2.ensures.value (c.ends_with.ensures.end yes) at in
    rw c.truncate.ensures.items
    (gathered _ _ c.node.ensures.keeps k c.args.parts.now.items c.in_ok-inner.inner.items c.in-Some.body c.args.next c.in_ok-plus.plus c.requires.parts e
    c.in_ok-inner.ensures.tree c.in-Some.ensures.star c.in_ok-plus.ensures.tree)

pub returns-clause-parts : goal.returns-clause-parts
returns-clause-parts c =
    rw c.truncate.ensures.items (kept_seq_parts _ _ c.node.ensures.keeps _ (all_take _ (c.len-2.result - c.len-3.result) c.args.parts.now.items c.requires.parts))
