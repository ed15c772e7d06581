use Rattle.std.proofs.Common.{arith, length, ◌<◌, subst}
use Rattle.std.specs.Option.{IfSome}
use Rattle.xd_doc.proofs.Options.{some_holds}
use Rattle.xd_named_parts.specs.Copies.{AreGiven, IsNodeCopy}
use Rattle.xd_named_parts.proofs.CopyLaws.{copies_set, grows_rows}
use Rattle.xd_named_parts.proofs.copies.put_inner.Goals as goal

pub returns-in-Some-clause-grows : goal.returns-in-Some-clause-grows
returns-in-Some-clause-grows c =
    let given = c.args.given.now in
    let old = given.pool.types in
    let words = given.names.items in
    let bodies = given.bodies.items in
    let mid = c.args.pool.now.types in
    let new = c.inner_copy.new.pool.types in
    let inner = c.args.inner.now.items in
    let id = c.in-Some.id in
    let l : c.args.number < length inner = omega (arith, c.requires.count, c.len.ensures, c.if-number-len.false) in
    let it = some_holds (IsNodeCopy old words bodies c.args.number inner inner mid new) c.in_ok-id.field-0 id c.in-Some.is
    (subst (λ t. IfSome c.in_ok-id.field-0 (IsNodeCopy old words bodies c.args.number t t mid new)) c.deref.ensures.value c.in_ok-id.ensures.copy) in
    copies_set (AreGiven old words bodies) old mid new inner c.args.number id c.inner_copy.ensures.keeps.rows c.requires.inner l (λ N M p h. it.same N M p.0 p.1 h h) it.belongs

pub returns-in_default-clause-grows : goal.returns-in_default-clause-grows
returns-in_default-clause-grows c =
    let given = c.args.given.now in
    grows_rows (AreGiven given.pool.types given.names.items given.bodies.items) given.pool.types c.args.pool.now.types c.inner_copy.new.pool.types c.args.inner.now.items c.inner_copy.ensures.keeps.rows c.requires.inner
