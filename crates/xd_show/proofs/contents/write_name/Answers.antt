use Rattle.std.proofs.Common.{ap, ◌∙◌}
use Rattle.xd_syntax.specs.Table.{tree_at}
use Rattle.xd_syntax.specs.Tree.{Name}
use Rattle.xd_show.specs.Contents.{MeansState}
use Rattle.xd_show.proofs.ContentLaws.{contents_set, name_exact}
use Rattle.xd_show.proofs.contents.write_name.Goals as goal

pub returns-clause-contents : goal.returns-clause-contents
returns-clause-contents c = λ a.
    let w = c.args.name.now in
    let s = c.args.state in
    let new = c.name_type.new.pool.types in
    let id = c.in_ok-id.id in
    let is = c.in_ok-id.ensures.tree ∙ ap Name c.in_ok-share.ensures in
    rw c.number.ensures
    (contents_set (MeansState a w s) a c.args.pool.now.types new c.args.written.now.items s id c.in_ok-id.ensures.grows.rows c.requires.belong c.requires.within
    (λ N p contents d. name_exact a w s (tree_at new id.at) is N p d) c.in_ok-id.ensures.belongs)
