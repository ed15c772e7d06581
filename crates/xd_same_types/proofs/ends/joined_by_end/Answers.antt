use Rattle.xd_doc.proofs.Lists.{all_there}
use Rattle.xd_syntax.specs.Table.{IsAltPart}
use Rattle.xd_same_types.proofs.ends.joined_by_end.Goals as goal

pub joined_end-requires-clause-one : goal.joined_end-requires-clause-one
joined_end-requires-clause-one c =
    let parts = c.args.some.now.parts.items in
    (all_there (λ id. IsAltPart c.args.pool.now.types id.at) parts c.in-Some.place c.index-old.result.now c.requires.parts c.in-Some.ensures c.index-old.ensures).0
