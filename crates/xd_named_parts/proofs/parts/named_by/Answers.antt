use Rattle.std.proofs.Common.{◌≡◌, List, [], ◌∷◌, arith, length, refl, sym, subst, ◌∙◌}
use Rattle.xd_doc.proofs.Options.{some_holds}
use Rattle.xd_syntax.specs.Table.{Row}
use Rattle.xd_syntax.specs.Words.{any_word}
use Rattle.xd_same_types.specs.Grown.{NamesAmong}
use Rattle.xd_named_parts.specs.Copies.{AllCopied, AreGivenWith, CopiesBelong, GrowsCopies, StandForNodes}
use Rattle.xd_named_parts.specs.declared.parts.Definitions.{Definitions}
use Rattle.xd_named_parts.proofs.CopyLaws.{no_copy}
use Rattle.xd_named_parts.proofs.NamedLaws.{are_shorter}
use Rattle.xd_named_parts.proofs.parts.named_by.Goals as goal

pub copy_inner-requires-clause-count : goal.copy_inner-requires-clause-count
copy_inner-requires-clause-count c = (c.in_ok-name_nodes.ensures.grows []).count ∙ c.in_ok-inner.ensures.count ∙ c.len-count.ensures

pub copy_inner-requires-clause-inner : goal.copy_inner-requires-clause-inner
copy_inner-requires-clause-inner c = (c.in_ok-name_nodes.ensures.grows []).belong (λ i id e. absurd (no_copy _ _ c.in_ok-inner.ensures i id e))

pub copy_plain-requires-clause-inner : goal.copy_plain-requires-clause-inner
copy_plain-requires-clause-inner c =
    subst (CopiesBelong c.copy_inner.new.pool.types) (sym c.deref-5.ensures.value)
    (c.in_ok-copy_inner.ensures.grows.belong ((c.in_ok-name_nodes.ensures.grows []).belong (λ i id e. absurd (no_copy _ _ c.in_ok-inner.ensures i id e))))

pub returns-in-Some : goal.returns-in-Some
returns-in-Some c =
    let D = c.args.given.now in
    let E : Definitions = record { pool = c.copy_plain.new.pool; names = c.in_ok-names.names; bodies = c.in-Some.bodies } in
    let old = D.pool.types in
    let named = c.args.plan.now.named.items in
    let names = c.in_ok-names.names.items in
    let r0 = c.new-pool.result.types in
    let r1 = c.name_nodes.new.pool.types in
    let r2 = c.copy_inner.new.pool.types in
    let r3 = c.copy_plain.new.pool.types in
    let inner0 = c.in_ok-inner.inner.items in
    let inner1 = c.name_nodes.new.inner.items in
    let inner2 = c.copy_inner.new.inner.items in
    let plain0 = c.in_ok-plain.plain.items in
    let plain1 = c.copy_plain.new.plain.items in
    let count : length names ≡ length named = omega (arith, c.in_ok-names.ensures.count, c.len.ensures, c.in_ok-names.names.ok.0, c.args.plan.now.named.ok.0) in
    let name = subst (λ ids. GrowsCopies (StandForNodes old names ids) old r0 inner0 r1 inner1) c.deref.ensures.value
    (subst (λ ws. GrowsCopies (StandForNodes old ws c.deref.result.now) old r0 inner0 r1 inner1) c.deref-2.ensures.value (c.in_ok-name_nodes.ensures.grows old)) in
    let plain = subst (λ t. GrowsCopies (AreGivenWith old D.names.items D.bodies.items r2 t) old r2 plain0 r3 plain1) c.deref-5.ensures.value c.in_ok-copy_plain.ensures.grows in
    let bare = c.in_ok-copy_plain.ensures.bare (λ i id e. absurd (no_copy _ _ c.in_ok-plain.ensures i id e)) in
    let all = some_holds (λ m. AllCopied c.deref-7.result.now c.deref-8.result.now m.items) c.in_ok-bodies.field-0 c.in-Some.bodies c.in-Some.is c.in_ok-bodies.ensures in
    let copied = subst (λ t. AllCopied t named c.in-Some.bodies.items) c.deref-7.ensures.value (subst (λ ids. AllCopied c.deref-7.result.now ids c.in-Some.bodies.items) c.deref-8.ensures.value all) in
    let first = c.name_nodes.ensures.names (subst (λ (rows : List Row). NamesAmong (any_word ∷ c.deref-2.result.now) rows) (sym c.new-pool.ensures) tt) in
    let known = c.copy_plain.ensures.keeps.names (any_word ∷ names) refl (c.copy_inner.ensures.keeps.names (any_word ∷ names) refl (subst (λ ws. NamesAmong (any_word ∷ ws) r1) c.deref-2.ensures.value first)) in
    are_shorter D E c.args.taken.now named c.requires.given c.requires.plan c.in_ok-names.ensures.new c.in_ok-names.ensures.named count r0 r1 r2 inner0 inner1 inner2 plain0 plain1 c.len-count.result
    c.in_ok-inner.ensures c.in_ok-plain.ensures name c.in_ok-copy_inner.ensures.grows plain bare copied known
