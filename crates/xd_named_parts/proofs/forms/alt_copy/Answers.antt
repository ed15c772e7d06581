use Rattle.std.proofs.Common.{arith, refl, sym, subst}
use Rattle.std.specs.List.{AllByRecursion}
use Rattle.xd_doc.proofs.Options.{some_holds}
use Rattle.xd_syntax.specs.TreeForms.{alt_of}
use Rattle.xd_syntax.specs.Types.{BelongsTo}
use Rattle.xd_same_types.specs.Same.{AreAltParts, trees}
use Rattle.xd_same_types.proofs.Tables.{numbers_count, alt_numbers}
use Rattle.xd_named_parts.specs.Copies.{AllCopied, TakesAll}
use Rattle.xd_named_parts.proofs.CopyLaws.{alt_any, alt_is, copied_belong}
use Rattle.xd_named_parts.proofs.forms.alt_copy.Goals as goal

pub are_alt_parts-requires : goal.are_alt_parts-requires
are_alt_parts-requires c =
    let rows = c.args.pool.now.types in
    let tops = c.args.tops.now in
    let parts = c.args.parts.now in
    let made = c.in-Some.made in
    let all = some_holds (λ m. AllCopied tops parts m.items) c.in_ok-made.field-0 made c.in-Some.is c.in_ok-made.ensures in
    subst (AllByRecursion (BelongsTo rows)) (sym c.deref.ensures.value) (copied_belong rows tops parts made.items c.requires all)

pub some_any-requires : goal.some_any-requires
some_any-requires c =
    let rows = c.args.pool.now.types in
    let tops = c.args.tops.now in
    let parts = c.args.parts.now in
    let made = c.in-Some.made in
    let all = some_holds (λ m. AllCopied tops parts m.items) c.in_ok-made.field-0 made c.in-Some.is c.in_ok-made.ensures in
    subst (AllByRecursion (BelongsTo rows)) (sym c.deref-2.ensures.value) (copied_belong rows tops parts made.items c.requires all)

pub node-requires : goal.node-requires
node-requires c =
    let rows = c.args.pool.now.types in
    let made = c.in-Some.made in
    let parts = subst (AreAltParts rows) c.deref.ensures.value (c.are_alt_parts.ensures c.if-not-are_alt_parts.false) in
    let e = numbers_count made.items in
    ((omega (arith, made.ok.0, c.len.ensures, c.if-len-lt2.false), alt_numbers rows made.items parts), refl)

pub returns-then-some_any-clause-copy : goal.returns-then-some_any-clause-copy
returns-then-some_any-clause-copy c = λ inner.
    let rows = c.args.pool.now.types in
    let tops = c.args.tops.now in
    let parts = c.args.parts.now in
    let made = c.in-Some.made in
    let all = some_holds (λ m. AllCopied tops parts m.items) c.in_ok-made.field-0 made c.in-Some.is c.in_ok-made.ensures in
    let takes = subst (λ xs. TakesAll (alt_of (trees rows xs))) c.deref-2.ensures.value (c.some_any.ensures c.if-some_any.true) in
    alt_any tops inner rows c.any_type.new.pool.types c.in_ok-any_type.field-0 c.in_ok-any_type.ensures.belongs parts made.items (omega (arith, made.ok.0, c.len.ensures, c.if-len-lt2.false)) all takes c.in_ok-any_type.ensures.tree

pub returns-clause-copy : goal.returns-clause-copy
returns-clause-copy c = λ inner.
    let tops = c.args.tops.now in
    let parts = c.args.parts.now in
    let made = c.in-Some.made in
    let all = some_holds (λ m. AllCopied tops parts m.items) c.in_ok-made.field-0 made c.in-Some.is c.in_ok-made.ensures in
    alt_is tops inner c.args.pool.now.types c.node.new.pool.types c.in_ok-node.field-0 c.in_ok-node.ensures.belongs parts made.items (omega (arith, made.ok.0, c.len.ensures, c.if-len-lt2.false)) all c.in_ok-node.ensures.tree
