use Rattle.std.proofs.Common.{◌≡◌, Some}
use Rattle.xd_named_parts.specs.Copies.{copy_in}
use Rattle.xd_named_parts.proofs.AnyLaws.{opt_all}
use Rattle.xd_named_parts.proofs.CopyLaws.{opt_any, opt_is}
use Rattle.xd_named_parts.proofs.forms.opt_copy.Goals as goal

pub returns-then-takes_more-clause-copy : goal.returns-then-takes_more-clause-copy
returns-then-takes_more-clause-copy c = λ inner.
    let id = c.in-Some.id in
    let e : copy_in c.args.tops.now c.args.part.at ≡ Some id = cc in
    opt_any c.args.tops.now inner c.args.pool.now.types c.any_type.new.pool.types c.in_ok-any_type.field-0 c.in_ok-any_type.ensures.belongs c.args.part.at id e
    (opt_all _ (c.takes_more.ensures c.if-takes_more.true)) c.in_ok-any_type.ensures.tree

pub returns-clause-copy : goal.returns-clause-copy
returns-clause-copy c = λ inner.
    let id = c.in-Some.id in
    let e : copy_in c.args.tops.now c.args.part.at ≡ Some id = cc in
    opt_is c.args.tops.now inner c.args.pool.now.types c.node.new.pool.types c.in_ok-node.field-0 c.in_ok-node.ensures.belongs c.args.part.at id e c.in_ok-node.ensures.tree
