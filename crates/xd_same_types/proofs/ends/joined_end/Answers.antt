use Rattle.std.proofs.Common.{sym, ◌∙◌}
use Rattle.xd_doc.proofs.Options.{some_map}
use Rattle.xd_same_types.proofs.EndLaws.{ends_joined}
use Rattle.xd_same_types.proofs.Ids.{ok_map}
use Rattle.xd_same_types.proofs.ends.joined_end.Goals as goal

pub returns-clause-same : goal.returns-clause-same
returns-clause-same c =
    let same_end = sym c.at.ensures ∙ c.if-at.false ∙ c.at-else-count-eq0.ensures in
    ok_map c.one_before.result _ _
    (λ found h. some_map found _ _
    (λ id s. ends_joined c.args.pool.now.types c.split_end.new.pool.types c.split_end-2.new.pool.types c.split_end.ensures.keeps c.split_end-2.ensures.keeps c.args.one c.args.two c.in_ok-ahead.ahead c.in_ok-ahead.end c.in_ok-other.other c.in_ok-other.also _
    c.requires.two c.in_ok-ahead.ensures.belong.0 c.in_ok-ahead.ensures.belong.1 same_end c.in_ok-ahead.ensures.same c.in_ok-other.ensures.same s)
    h)
    c.one_before.ensures.same
