use Rattle.std.proofs.Common.{sym, subst}
use Rattle.std.specs.List.{All}
use Rattle.xd_patterns.specs.CompiledProgram.{IsLinearPattern}
use Rattle.xd_calls_clauses.proofs.clauses.bindings_at.Goals as goal

pub case_types-requires-clause-earlier : goal.case_types-requires-clause-earlier
case_types-requires-clause-earlier c =
    let rows = c.args.question.now.sound.patterns in
    c.in_ok-earlier.ensures.earlier rows (subst (All (IsLinearPattern rows)) (sym c.deref.ensures.value) c.requires.patterns)

pub preferred_types-requires-clause-earlier : goal.preferred_types-requires-clause-earlier
preferred_types-requires-clause-earlier c =
    let rows = c.args.question.now.sound.patterns in
    c.in_ok-earlier.ensures.earlier rows (subst (All (IsLinearPattern rows)) (sym c.deref.ensures.value) c.requires.patterns)
