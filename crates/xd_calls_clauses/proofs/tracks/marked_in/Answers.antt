use Rattle.xd_syntax.specs.Kept.{program_tree}
use Rattle.xd_syntax.specs.PlacedTable.{placed_at}
use Rattle.xd_syntax.specs.Program.{names_of}
use Rattle.xd_syntax.proofs.PlacedTrees.{unplaced_at}
use Rattle.xd_patterns.specs.Held.{marking_of}
use Rattle.xd_calls_clauses.proofs.tracks.marked_in.Goals as goal

pub returns-clause-together : goal.returns-clause-together
returns-clause-together c =
    let m = c.in_ok-marked.marked in
    let sound = c.new.new.sound in
    c.patterns_tell_variables.ensures.together (names_of (program_tree sound)) (placed_at sound.patterns c.args.pattern.at) c.compile.new.auto (marking_of m) m.start
    (rw (unplaced_at sound.patterns c.args.pattern.at) c.in_ok-marked.ensures.compiled)
