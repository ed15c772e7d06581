use Rattle.xd_syntax.specs.Kept.{program_tree}
use Rattle.xd_syntax.specs.Placed.{unplaced}
use Rattle.xd_syntax.specs.Program.{names_of}
use Rattle.xd_clauses.specs.Cases.{placed_pattern, placed_patterns}
use Rattle.xd_clauses.proofs.cases.live.Goals as goal

pub returns-clause-live : goal.returns-clause-live
returns-clause-live c =
    let p = c.args.sound.now in
    c.is_live.ensures.live (names_of (program_tree p)) c.args.auto.now c.args.state (placed_patterns p.patterns c.args.earlier.now) (placed_pattern p.patterns c.args.pattern) c.in_ok-arrival.ensures.pattern c.in_ok-arrival.ensures.exact

pub returns-clause-dead : goal.returns-clause-dead
returns-clause-dead c =
    let p = c.args.sound.now in
    c.is_live.ensures.dead (names_of (program_tree p)) c.args.auto.now c.args.state (placed_patterns p.patterns c.args.earlier.now) (placed_pattern p.patterns c.args.pattern) c.in_ok-arrival.ensures.pattern c.in_ok-arrival.ensures.exact

pub is_live-requires-clause-pattern : goal.is_live-requires-clause-pattern
is_live-requires-clause-pattern c =
    let p = c.args.sound.now in
    record { names = names_of (program_tree p); tree = unplaced (placed_pattern p.patterns c.args.pattern); numbered = c.in_ok-arrival.ensures.pattern }
