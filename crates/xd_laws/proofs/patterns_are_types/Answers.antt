use Rattle.xd_laws.proofs.TheLaws.{patterns_are_types}
use Rattle.xd_laws.proofs.patterns_are_types.Goals as goal

pub returns : goal.returns
returns c = patterns_are_types
