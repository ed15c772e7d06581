use Rattle.std.proofs.Common.{arith, refl, sym, subst}
use Rattle.std.specs.List.{AllByRecursion}
use Rattle.xd_doc.proofs.Options.{some_holds}
use Rattle.xd_syntax.specs.Types.{BelongsTo}
use Rattle.xd_same_types.specs.Same.{AreSeqParts}
use Rattle.xd_same_types.proofs.Tables.{numbers_count, seq_numbers}
use Rattle.xd_named_parts.specs.Copies.{AllCopied}
use Rattle.xd_named_parts.proofs.CopyLaws.{seq_is, copied_belong}
use Rattle.xd_named_parts.proofs.forms.seq_copy.Goals as goal

pub are_seq_parts-requires : goal.are_seq_parts-requires
are_seq_parts-requires c =
    let rows = c.args.pool.now.types in
    let tops = c.args.tops.now in
    let parts = c.args.parts.now in
    let made = c.in-Some.made in
    let all = some_holds (λ m. AllCopied tops parts m.items) c.in_ok-made.field-0 made c.in-Some.is c.in_ok-made.ensures in
    subst (AllByRecursion (BelongsTo rows)) (sym c.deref.ensures.value) (copied_belong rows tops parts made.items c.requires all)

pub node-requires : goal.node-requires
node-requires c =
    let rows = c.args.pool.now.types in
    let made = c.in-Some.made in
    let parts = subst (AreSeqParts rows) c.deref.ensures.value (c.are_seq_parts.ensures c.if-not-are_seq_parts.false) in
    let e = numbers_count made.items in
    ((omega (arith, made.ok.0, c.len.ensures, c.if-len-lt2.false), seq_numbers rows made.items parts), refl)

pub returns-clause-copy : goal.returns-clause-copy
returns-clause-copy c = λ inner.
    let tops = c.args.tops.now in
    let parts = c.args.parts.now in
    let made = c.in-Some.made in
    let all = some_holds (λ m. AllCopied tops parts m.items) c.in_ok-made.field-0 made c.in-Some.is c.in_ok-made.ensures in
    seq_is tops inner c.args.pool.now.types c.node.new.pool.types c.in_ok-node.field-0 c.in_ok-node.ensures.belongs parts made.items all c.in_ok-node.ensures.tree
