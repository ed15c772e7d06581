use Rattle.xd_clauses.proofs.NumberedLemmas.{numbered_alike, numbered_counted, numbered_together}
use Rattle.xd_clauses.proofs.numbered.NumberedPattern.given_by.Goals as goal

pub variables-variables-requires : goal.variables-variables-requires
variables-variables-requires c =
    let p = c.requires.pattern in numbered_counted p.names p.tree c.args.self.patterns.now c.args.self.number p.numbered

pub first_bindings-requires-clause-alike : goal.first_bindings-requires-clause-alike
first_bindings-requires-clause-alike c =
    let p = c.requires.pattern in
    numbered_alike p.names p.tree c.args.self.patterns.now c.args.self.number p.numbered c.variables-variables.result.now c.variables-variables.ensures

pub first_bindings-requires-clause-together : goal.first_bindings-requires-clause-together
first_bindings-requires-clause-together c =
    let p = c.requires.pattern in
    numbered_together p.names p.tree c.args.self.patterns.now c.args.self.number p.numbered c.variables-variables.result.now c.start-start.result c.start-start.ensures.is

pub bindings-requires-clause-alike : goal.bindings-requires-clause-alike
bindings-requires-clause-alike c =
    let p = c.requires.pattern in
    numbered_alike p.names p.tree c.args.self.patterns.now c.args.self.number p.numbered c.variables-variables.result.now c.variables-variables.ensures

pub bindings-requires-clause-together : goal.bindings-requires-clause-together
bindings-requires-clause-together c =
    let p = c.requires.pattern in
    numbered_together p.names p.tree c.args.self.patterns.now c.args.self.number p.numbered c.variables-variables.result.now c.start-start.result c.start-start.ensures.is
