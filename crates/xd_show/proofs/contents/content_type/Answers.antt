use Rattle.xd_show.proofs.ContentLaws.{types_found}
use Rattle.xd_show.proofs.contents.content_type.Goals as goal

pub returns-then-is_level_written-clause-found : goal.returns-then-is_level_written-clause-found
returns-then-is_level_written-clause-found c =
    types_found c.args.auto.now c.args.pool.now.types c.args.written.now c.args.state c.state_type.new.pool.types c.state_type.result c.state_type.ensures.exact c.state_type.ensures.belongs
