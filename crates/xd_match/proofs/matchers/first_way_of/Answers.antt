use Rattle.xd_match.proofs.PatternLaws.{all_stand_set, has_matcher_set}
use Rattle.xd_match.proofs.matchers.first_way_of.Goals as goal

pub returns-clause-stand : goal.returns-clause-stand
returns-clause-stand c =
    all_stand_set c.args.store.now c.first_way.new.store c.args.matchers.now.items c.args.number c.first_way.new.self c.first_way.ensures.keeps c.requires.stand c.requires.number c.first_way.ensures.stands

pub returns-clause-same : goal.returns-clause-same
returns-clause-same c E P i =
    has_matcher_set E P c.args.matchers.now.items c.args.number c.index_mut-matcher.result.now c.first_way.new.self i c.index_mut-matcher.ensures.value (c.first_way.ensures.pattern E P) c.requires.number
