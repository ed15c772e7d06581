use Rattle.std.proofs.Common.{◌∙◌}
use Rattle.xd_clauses.proofs.NumberedLemmas.{numbered_counted, numbered_variables}
use Rattle.xd_clauses.proofs.numbered.NumberedPattern.variables.Goals as goal

pub variables-requires : goal.variables-requires
variables-requires c = let p = c.requires in numbered_counted p.names p.tree c.args.self.patterns.now c.args.self.number p.numbered

pub returns : goal.returns
returns c E P i = c.variables.ensures ∙ numbered_variables E P c.args.self.patterns.now c.args.self.number i
