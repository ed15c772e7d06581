use Rattle.xd_doc.proofs.Lists.{all_there}
use Rattle.xd_syntax.specs.Table.{IsAltPart}
use Rattle.xd_same_types.proofs.alts.joined_near.Goals as goal

pub joined-requires-clause-one : goal.joined-requires-clause-one
joined-requires-clause-one c =
    let parts = c.args.some.now.parts.items in
    all_there (λ id. IsAltPart c.args.pool.now.types id.at) parts c.in-Some.place c.index-old.result.now c.requires.parts c.in-Some.ensures c.index-old.ensures
