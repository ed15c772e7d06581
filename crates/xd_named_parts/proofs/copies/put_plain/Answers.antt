use Rattle.std.proofs.Common.{arith, length, ◌<◌, [], ◌∷◌, subst, sym}
use Rattle.std.specs.Option.{IfSome}
use Rattle.xd_doc.proofs.Options.{some_holds}
use Rattle.xd_syntax.specs.Types.{tree}
use Rattle.xd_syntax.specs.Words.{any_word}
use Rattle.xd_same_types.specs.Same.{HasTops}
use Rattle.xd_syntax.specs.declared.types.TypeId.{TypeId}
use Rattle.xd_named_parts.specs.Copies.{AreBare, AreGivenWith, IsNodeCopy}
use Rattle.xd_named_parts.proofs.CopyLaws.{bare_kept, bare_set, copies_set, grows_rows}
use Rattle.xd_named_parts.proofs.copies.put_plain.Goals as goal

pub returns-in-Some-clause-grows : goal.returns-in-Some-clause-grows
returns-in-Some-clause-grows c =
    let given = c.args.given.now in
    let old = given.pool.types in
    let words = given.names.items in
    let bodies = given.bodies.items in
    let mid = c.args.pool.now.types in
    let new = c.plain_copy.new.pool.types in
    let inner = c.args.inner.now in
    let plain = c.args.plain.now.items in
    let id = c.in-Some.id in
    let l : c.args.number < length plain = omega (arith, c.requires.count, c.len.ensures, c.if-number-len.false) in
    let it = some_holds (IsNodeCopy old words bodies c.args.number plain inner mid new) c.in_ok-id.field-0 id c.in-Some.is
    (subst (λ t. IfSome c.in_ok-id.field-0 (IsNodeCopy old words bodies c.args.number t inner mid new)) c.deref.ensures.value c.in_ok-id.ensures.copy) in
    copies_set (AreGivenWith old words bodies mid inner) old mid new plain c.args.number id c.plain_copy.ensures.keeps.rows c.requires.plain l (λ N M p h. it.same N M p.0.0 p.0.1 h p.1) it.belongs

pub returns-in-Some-clause-bare : goal.returns-in-Some-clause-bare
returns-in-Some-clause-bare c = λ h.
    let mid = c.args.pool.now.types in
    let new = c.plain_copy.new.pool.types in
    let plain = c.args.plain.now.items in
    let id = c.in-Some.id in
    let l : c.args.number < length plain = omega (arith, c.requires.count, c.len.ensures, c.if-number-len.false) in
    let it = some_holds (λ (x : TypeId). HasTops (any_word ∷ []) (tree new x)) c.in_ok-id.field-0 id c.in-Some.is (c.in_ok-id.ensures.bare (subst (AreBare mid) (sym c.deref.ensures.value) h)) in
    bare_set mid new plain c.args.number id c.plain_copy.ensures.keeps.rows c.requires.plain l it h

pub returns-in_default-clause-grows : goal.returns-in_default-clause-grows
returns-in_default-clause-grows c =
    let given = c.args.given.now in
    grows_rows (AreGivenWith given.pool.types given.names.items given.bodies.items c.args.pool.now.types c.args.inner.now) given.pool.types c.args.pool.now.types c.plain_copy.new.pool.types c.args.plain.now.items c.plain_copy.ensures.keeps.rows c.requires.plain

pub returns-in_default-clause-bare : goal.returns-in_default-clause-bare
returns-in_default-clause-bare c = λ h. bare_kept c.args.pool.now.types c.plain_copy.new.pool.types c.args.plain.now.items c.plain_copy.ensures.keeps.rows c.requires.plain h
