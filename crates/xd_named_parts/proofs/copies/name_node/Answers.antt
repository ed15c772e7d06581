use Rattle.std.proofs.Common.{ap, ◌∙◌}
use Rattle.xd_syntax.specs.Tree.{Name}
use Rattle.xd_named_parts.proofs.CopyLaws.{named_set}
use Rattle.xd_named_parts.proofs.copies.name_node.Goals as goal

pub returns-clause-grows : goal.returns-clause-grows
returns-clause-grows c = λ old.
    rw c.at.ensures
    (named_set old c.args.pool.now.types c.name_type.new.pool.types c.args.inner.now.items c.args.name.now c.args.id c.in_ok-named.named c.in_ok-named.ensures.grows.rows c.requires.inner c.requires.within
    (c.in_ok-named.ensures.tree ∙ ap Name c.in_ok-share.ensures) c.in_ok-named.ensures.belongs)
