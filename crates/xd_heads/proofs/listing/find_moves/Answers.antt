use Rattle.std.proofs.Common.{false, List, sym, subst}
use Rattle.xd_syntax.specs.Table.{Row, AreBuilt, tree_at}
use Rattle.xd_syntax.specs.Kept.{program_tree}
use Rattle.xd_sound.specs.TypeNames.{meanings}
use Rattle.xd_laws.specs.Guarded.{Guarded}
use Rattle.xd_laws.proofs.SoundGuarded.{guarded}
use Rattle.xd_continuations.proofs.IsMergedLemmas.{tree_merged}
use Rattle.xd_continuations.proofs.ChainLemmas.{kept_same}
use Rattle.xd_moves.specs.Cells.{StayChosen}
use Rattle.xd_moves.specs.Found.{AreDecidingMarks, AreMovesOf, AreOfTypes}
use Rattle.xd_continuations.specs.Bodies.{AreBodies}
use Rattle.xd_syntax.proofs.KeptLaws.{along, back_along}
use Rattle.xd_continuations.proofs.GrownTables.{bodies_stand}
use Rattle.xd_continuations.proofs.Bodied.{are_bodies}
use Rattle.xd_heads.proofs.HeadLists.{heads_found}
use Rattle.xd_heads.proofs.KeepsStatesLemmas.{marks_decide}
use Rattle.xd_heads.proofs.listing.find_moves.Goals as goal

pub expand-requires-clause-guarded : goal.expand-requires-clause-guarded
expand-requires-clause-guarded g c =
    along c.args.program.now c.types-types.result.now c.type_defs.result.now (λ t d. Guarded (meanings t d)) c.types-types.ensures.types c.type_defs.ensures.type_defs
    (guarded (program_tree c.args.program.now) c.requires.sound)

pub expand-requires-clause-bodies : goal.expand-requires-clause-bodies
expand-requires-clause-bodies g c =
    let p = c.args.program.now in
    along p c.types-types.result.now c.type_defs.result.now (λ t d. AreBodies t d c.args.bodies.now) c.types-types.ensures.types c.type_defs.ensures.type_defs
    (are_bodies p.types p.type_defs c.args.bodies.now (bodies_stand p c.types-types.ensures.stands) c.requires.numbered c.requires.any c.requires.any_type)

pub expand-requires-clause-marks : goal.expand-requires-clause-marks
expand-requires-clause-marks g c =
    let p = c.args.program.now in
    along p c.types-types.result.now c.type_defs.result.now (λ t d. AreDecidingMarks t d c.args.marks.now) c.types-types.ensures.types c.type_defs.ensures.type_defs
    (marks_decide p.types p.type_defs (guarded (program_tree p) c.requires.sound) c.args.marks.now c.requires.marks)

pub expand-requires-clause-nodes : goal.expand-requires-clause-nodes
expand-requires-clause-nodes g c = subst (λ (t : List Row). AreOfTypes t c.args.cells.now) (sym c.types-types.ensures.types) c.requires.nodes

pub expand-requires-clause-serve : goal.expand-requires-clause-serve
expand-requires-clause-serve g c = subst (λ (t : List Row). g.S.StandIns.serve t c.args.stand_ins.now) (sym c.types-types.ensures.types) c.requires.serve

pub returns-clause-found : goal.returns-clause-found
returns-clause-found g c id belongs pieces =
    let p = c.args.program.now in
    let types = c.types-types.result.now in
    let e = c.types-types.ensures.types in
    let built = subst (AreBuilt false) e c.see_table.ensures.built in
    let T = tree_at p.types id.at in
    let cells = c.args.cells.now in
    heads_found p c.types-types.ensures.stands built T (tree_merged p.types built id.at belongs) (λ s. s id.at belongs)
    cells c.expand.new.cells c.args.number c.in_ok-found.found.items c.requires.nodes pieces
    (back_along p types c.type_defs.result.now (λ t d. AreMovesOf t d cells c.expand.new.cells c.args.number c.in_ok-found.found.items) e c.type_defs.ensures.type_defs c.in_ok-found.ensures.moves)
    cells (kept_same cells)

pub returns-clause-chosen : goal.returns-clause-chosen
returns-clause-chosen g c =
    subst (λ (t : List Row). StayChosen (g.S.StandIns.chosen t c.args.stand_ins.now) c.args.cells.now c.expand.new.cells) c.types-types.ensures.types c.in_ok-found.ensures.chosen
