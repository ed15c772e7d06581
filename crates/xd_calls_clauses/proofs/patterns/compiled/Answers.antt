use Rattle.std.proofs.Common.{◌<◌, ap, length, sym, subst, ◌∙◌}
use Rattle.xd_syntax.specs.Kept.{ProgramTable, program_tree}
use Rattle.xd_syntax.specs.Proper.{IsProperProgram}
use Rattle.xd_syntax.specs.RecursionFaults.{IsSound}
use Rattle.xd_syntax.specs.Table.{tree_at}
use Rattle.xd_syntax.proofs.KeptLaws.{along}
use Rattle.xd_laws.specs.Guarded.{Guarded}
use Rattle.xd_laws.proofs.SoundGuarded.{guarded}
use Rattle.xd_pattern_runs.specs.Linear.{BindNothing}
use Rattle.xd_pattern_runs.proofs.NamesBindNothing.{names_bind_nothing}
use Rattle.xd_sound.specs.TypeNames.{AreNumbered, meanings}
use Rattle.xd_continuations.specs.Bodies.{AreBodies}
use Rattle.xd_continuations.specs.declared.bodies.TypeBodies.{TypeBodies}
use Rattle.xd_continuations.proofs.Bodied.{are_bodies}
use Rattle.xd_continuations.proofs.GrownTables.{bodies_stand}
use Rattle.xd_calls_clauses.proofs.patterns.compiled.Goals as goal

pub compile_pattern-requires-clause-guarded : goal.compile_pattern-requires-clause-guarded
compile_pattern-requires-clause-guarded c =
    let p = c.program-program.result.now in
    along p c.types.result.now c.type_defs-2.result.now (λ t d. Guarded (meanings t d)) c.types.ensures.types c.type_defs-2.ensures.type_defs
    (guarded (program_tree p) (subst (λ q. IsSound (program_tree q)) (sym c.program-program.ensures.program) c.program-program.ensures.sound))

pub compile_pattern-requires-clause-none : goal.compile_pattern-requires-clause-none
compile_pattern-requires-clause-none c =
    let p = c.program-program.result.now in
    along p c.types.result.now c.type_defs-2.result.now (λ t d. BindNothing (meanings t d)) c.types.ensures.types c.type_defs-2.ensures.type_defs
    (names_bind_nothing (program_tree p) (subst (λ q. IsProperProgram (program_tree q)) (sym c.program-program.ensures.program) c.program-program.ensures.proper))

pub compile_pattern-requires-clause-bodies : goal.compile_pattern-requires-clause-bodies
compile_pattern-requires-clause-bodies c =
    let p = c.program-program.result.now in
    let q = c.meaning_of_any.new.sound in
    let e = c.program-program.ensures.program in
    let found = c.in_ok-any.ensures.found in
    let b : TypeBodies = record { names = c.in_ok-names.names; any = c.at.result } in
    along p c.types.result.now c.type_defs-2.result.now (λ t d. AreBodies t d b) c.types.ensures.types c.type_defs-2.ensures.type_defs
    (are_bodies p.types p.type_defs b (bodies_stand p c.types.ensures.stands) (subst (AreNumbered b.names) c.type_defs.ensures.type_defs c.in_ok-names.ensures)
    (subst (λ (r : ProgramTable). b.any < length r.types) (sym e) (subst (λ i. i < length q.types) (sym c.at.ensures) found.belongs))
    (ap (λ (r : ProgramTable). tree_at r.types b.any) e ∙ ap (tree_at q.types) c.at.ensures ∙ found.same))
