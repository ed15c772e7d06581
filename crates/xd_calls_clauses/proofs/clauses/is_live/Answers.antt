use Rattle.std.proofs.Common.{sym, subst}
use Rattle.std.specs.List.{All}
use Rattle.xd_patterns.specs.CompiledProgram.{IsLinearPattern}
use Rattle.xd_calls_clauses.proofs.clauses.is_live.Goals as goal

pub live-requires-clause-earlier : goal.live-requires-clause-earlier
live-requires-clause-earlier c =
    let rows = c.args.question.now.sound.patterns in
    c.in_ok-earlier.ensures.earlier rows (subst (All (IsLinearPattern rows)) (sym c.deref.ensures.value) c.requires.patterns)
