use Rattle.xd_syntax.specs.Kept.{program_tree}
use Rattle.xd_syntax.specs.Program.{names_of}
use Rattle.xd_clauses.specs.Cases.{placed_pattern, placed_patterns}
use Rattle.xd_clauses.proofs.cases.case_types.Goals as goal

pub bindings-requires-clause-pattern : goal.bindings-requires-clause-pattern
bindings-requires-clause-pattern c =
    let p = c.args.sound.now in
    (names_of (program_tree p), placed_pattern p.patterns c.args.pattern, c.in_ok-arrival.ensures.pattern)

pub returns-clause-bindings : goal.returns-clause-bindings
returns-clause-bindings c =
    let p = c.args.sound.now in
    c.bindings.ensures (names_of (program_tree p)) c.args.auto.now c.args.state (placed_patterns p.patterns c.args.earlier.now) (placed_pattern p.patterns c.args.pattern) c.in_ok-arrival.ensures.pattern c.in_ok-arrival.ensures.exact
