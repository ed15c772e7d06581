use Rattle.std.proofs.Common.{subst}
use Rattle.xd_syntax.specs.Tree.{Seq}
use Rattle.xd_syntax.specs.Types.{tree}
use Rattle.xd_same_types.specs.Same.{MeansSame}
use Rattle.xd_same_types.proofs.EndLaws.{before_joined}
use Rattle.xd_same_types.proofs.Tables.{kept_tree}
use Rattle.xd_same_types.proofs.ends.one_before.Goals as goal

pub returns-clause-same : goal.returns-clause-same
returns-clause-same c =
    let old = c.args.pool.now.types in
    let mid = c.plain_alt.new.pool.types in
    let front = tree mid c.in_ok-front.front in
    let made = tree c.seq.new.pool.types c.in_ok-made.made in
    before_joined front made (tree old c.args.ahead) (tree old c.args.other) (tree old c.args.end) c.in_ok-front.ensures.same
    (subst (λ x. MeansSame made (Seq front x)) (kept_tree old mid c.plain_alt.ensures.keeps c.args.end c.requires.end) c.in_ok-made.ensures.same)
