use Rattle.std.proofs.Common.{List, sym, subst}
use Rattle.xd_syntax.specs.Table.{Row}
use Rattle.xd_syntax.specs.Kept.{program_tree}
use Rattle.xd_sound.specs.TypeNames.{meanings}
use Rattle.xd_laws.specs.Guarded.{Guarded}
use Rattle.xd_laws.proofs.SoundGuarded.{guarded}
use Rattle.xd_moves.specs.Found.{AreDecidingMarks, AreOfTypes}
use Rattle.xd_continuations.specs.Bodies.{AreBodies}
use Rattle.xd_syntax.proofs.KeptLaws.{along}
use Rattle.xd_continuations.proofs.GrownTables.{bodies_stand}
use Rattle.xd_continuations.proofs.Bodied.{are_bodies}
use Rattle.xd_heads.proofs.KeepsStatesLemmas.{marks_decide}
use Rattle.xd_calls_states.proofs.types.count_moves.Goals as goal

pub expand-requires-clause-guarded : goal.expand-requires-clause-guarded
expand-requires-clause-guarded c =
    along c.args.program.now c.types-types.result.now c.type_defs.result.now (λ t d. Guarded (meanings t d)) c.types-types.ensures.types c.type_defs.ensures.type_defs
    (guarded (program_tree c.args.program.now) c.requires.sound)

pub expand-requires-clause-bodies : goal.expand-requires-clause-bodies
expand-requires-clause-bodies c =
    let p = c.args.program.now in
    along p c.types-types.result.now c.type_defs.result.now (λ t d. AreBodies t d c.args.bodies.now) c.types-types.ensures.types c.type_defs.ensures.type_defs
    (are_bodies p.types p.type_defs c.args.bodies.now (bodies_stand p c.types-types.ensures.stands) c.requires.numbered c.requires.any c.requires.any_type)

pub expand-requires-clause-marks : goal.expand-requires-clause-marks
expand-requires-clause-marks c =
    let p = c.args.program.now in
    along p c.types-types.result.now c.type_defs.result.now (λ t d. AreDecidingMarks t d c.args.marks.now) c.types-types.ensures.types c.type_defs.ensures.type_defs
    (marks_decide p.types p.type_defs (guarded (program_tree p) c.requires.sound) c.args.marks.now c.requires.marks)

pub expand-requires-clause-nodes : goal.expand-requires-clause-nodes
expand-requires-clause-nodes c =
    c.in_ok-number.ensures.content.cells.nodes (subst (AreOfTypes c.types-types.result.now) (sym c.new-cells.ensures) tt)
