use Rattle.xd_parse.proofs.Sure.{texts_mean_one_thing}
use Rattle.xd_parse.proofs.laws.texts_mean_one_thing.Goals as goal

pub returns : goal.returns
returns c = texts_mean_one_thing
