use Rattle.xd_clauses.proofs.CompiledTellLaw.{keep_together, tells}
use Rattle.xd_clauses.proofs.laws.patterns_tell_variables.Goals as goal

pub returns-clause-together : goal.returns-clause-together
returns-clause-together c = keep_together

pub returns-clause-given : goal.returns-clause-given
returns-clause-given c = tells
