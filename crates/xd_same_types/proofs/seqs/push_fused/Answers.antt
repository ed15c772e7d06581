use Rattle.std.proofs.Common.{◌≡◌, ◌-◌, suc, get_or, length, subst, arith}
use Rattle.std.specs.Option.{IfSome}
use Rattle.xd_doc.proofs.Lists.{all_push, all_take}
use Rattle.xd_syntax.specs.Tree.{Seq}
use Rattle.xd_syntax.specs.Types.{tree}
use Rattle.xd_same_types.specs.Same.{MeansSame}
use Rattle.xd_syntax.specs.Table.{IsSeqPart}
use Rattle.xd_same_types.proofs.Ids.{not_zero}
use Rattle.xd_same_types.proofs.SeqLaws.{fused_last, pushed_part}
use Rattle.xd_same_types.proofs.Tables.{kept_seq_parts, kept_seq_part, kept_tree, last_split}
use Rattle.xd_same_types.proofs.seqs.push_fused.Goals as goal

pub returns-in_err-one-clause-parts : goal.returns-in_err-one-clause-parts
returns-in_err-one-clause-parts c = kept_seq_parts _ _ c.fused.ensures.keeps c.args.parts.now.items c.requires.parts

pub returns-in_err-push-in-None-clause-parts : goal.returns-in_err-push-in-None-clause-parts
returns-in_err-push-in-None-clause-parts c =
    rw c.in_err-push-in-None.ensures.items (kept_seq_parts _ _ c.fused.ensures.keeps c.args.parts.now.items c.requires.parts)

pub returns-in_ok-push-in-Some-clause-same : goal.returns-in_ok-push-in-Some-clause-same
returns-in_ok-push-in-Some-clause-same c =
    let k = c.len-in-Some.result - 1 in
    let some = not_zero _ _ c.is_empty.ensures c.if-is_empty.false in
    let count : length c.args.parts.now.items ≡ suc k = omega (arith, c.len-in-Some.ensures, some, c.args.parts.now.ok.0) in
    let same : c.len.result - 1 ≡ k = omega (arith, c.len-in-Some.ensures, c.len.ensures) in
    let last = c.index-last.result.now in
    let at = subst (λ n. last ≡ get_or c.args.parts.now.items n last) same c.index-last.ensures in
    let e = last_split c.args.parts.now.items k last count at in
    let s = subst (λ o. IfSome o (λ id. MeansSame (tree c.fused.new.pool.types id) (Seq (tree c.args.pool.now.types last) (tree c.args.pool.now.types c.args.next)))) c.in-Some.is c.in_ok-one.ensures.same in
    rw c.in_ok-push-in-Some.ensures.items (rw c.truncate.ensures.items (fused_last _ _ c.fused.ensures.keeps k c.args.parts.now.items last c.args.next c.in-Some.one c.requires.parts e s))

pub returns-in_ok-push-in-Some-clause-parts : goal.returns-in_ok-push-in-Some-clause-parts
returns-in_ok-push-in-Some-clause-parts c =
    let part = subst (λ o. IfSome o (λ id. IsSeqPart c.fused.new.pool.types id.at)) c.in-Some.is c.in_ok-one.ensures.part in
    rw c.in_ok-push-in-Some.ensures.items (rw c.truncate.ensures.items
    (all_push _ _ c.in-Some.one (all_take _ (c.len-in-Some.result - 1) c.args.parts.now.items (kept_seq_parts _ _ c.fused.ensures.keeps c.args.parts.now.items c.requires.parts)) part))

pub returns-in_ok-push-in-None-clause-same : goal.returns-in_ok-push-in-None-clause-same
returns-in_ok-push-in-None-clause-same c =
    rw c.in_ok-push-in-None.ensures.items (pushed_part _ _ c.fused.ensures.keeps c.args.parts.now.items c.args.next c.requires.parts c.requires.next.0 (kept_tree _ _ c.fused.ensures.keeps c.args.next c.requires.next.0))

pub returns-in_ok-push-in-None-clause-parts : goal.returns-in_ok-push-in-None-clause-parts
returns-in_ok-push-in-None-clause-parts c =
    rw c.in_ok-push-in-None.ensures.items (all_push _ c.args.parts.now.items c.args.next (kept_seq_parts _ _ c.fused.ensures.keeps c.args.parts.now.items c.requires.parts) (kept_seq_part _ _ c.fused.ensures.keeps c.args.next c.requires.next))
