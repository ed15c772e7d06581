use Rattle.std.proofs.Common.{◌≡◌, ◌<◌, false, length, Some, ap, sym, subst, ◌∙◌, [], List}
use Rattle.std.specs.List.{AllByRecursion}
use Rattle.xd_syntax.specs.Table.{Row, AreBuilt, tree_at}
use Rattle.xd_syntax.specs.Kept.{program_tree}
use Rattle.xd_sound.specs.TypeNames.{meanings}
use Rattle.xd_syntax.specs.declared.types.TypeDef.{TypeDef}
use Rattle.xd_laws.specs.Guarded.{Guarded}
use Rattle.xd_laws.proofs.SoundGuarded.{guarded}
use Rattle.xd_continuations.specs.Continuation.{AreMerged}
use Rattle.xd_continuations.specs.TailUses.{RecursOnlyInTail}
use Rattle.xd_continuations.proofs.IsMergedLemmas.{tree_merged}
use Rattle.xd_continuations.proofs.MoveLemmas.{seq_of-pieces}
use Rattle.xd_continuations.proofs.SoundTail.{recurs_only_in_tail}
use Rattle.xd_heads.specs.CellsView.{CellsView}
use Rattle.xd_heads.specs.Compiled.{AreCompiled, AreAllCompiled, AreSorted}
use Rattle.xd_heads.specs.Sorts.{rows_of}
use Rattle.xd_moves.specs.Found.{AreDecidingMarks}
use Rattle.xd_heads.specs.Mirrors.{as_type, continuation_of, KeepsStates, Mirrors}
use Rattle.xd_continuations.specs.Bodies.{AreBodies}
use Rattle.xd_syntax.proofs.KeptLaws.{along, back_along}
use Rattle.xd_continuations.proofs.GrownTables.{bodies_stand}
use Rattle.xd_continuations.proofs.Bodied.{are_bodies}
use Rattle.xd_heads.proofs.Mirrored.{to_compiled, to_sorted}
use Rattle.xd_heads.proofs.KeepsStatesLemmas.{are_merged, marks_decide, compiled_keeps, compiled_mirrors_again}
use Rattle.xd_heads.proofs.types.compile_in.Goals as goal

pub compile_node-requires-clause-guarded : goal.compile_node-requires-clause-guarded
compile_node-requires-clause-guarded c =
    along c.args.program.now c.types-types.result.now c.type_defs.result.now (λ t d. Guarded (meanings t d)) c.types-types.ensures.types c.type_defs.ensures.type_defs
    (guarded (program_tree c.args.program.now) c.requires.sound)

pub compile_node-requires-clause-tail : goal.compile_node-requires-clause-tail
compile_node-requires-clause-tail c =
    along c.args.program.now c.types-types.result.now c.type_defs.result.now (λ t d. RecursOnlyInTail (meanings t d)) c.types-types.ensures.types c.type_defs.ensures.type_defs
    (recurs_only_in_tail (program_tree c.args.program.now) c.requires.sound)

pub compile_node-requires-clause-merged : goal.compile_node-requires-clause-merged
compile_node-requires-clause-merged c =
    along c.args.program.now c.types-types.result.now c.type_defs.result.now (λ t d. AreMerged (meanings t d)) c.types-types.ensures.types c.type_defs.ensures.type_defs
    (are_merged c.args.program.now c.types-types.ensures.stands (subst (AreBuilt false) c.types-types.ensures.types c.see_table.ensures.built))

pub compile_node-requires-clause-stand : goal.compile_node-requires-clause-stand
compile_node-requires-clause-stand c =
    along c.args.program.now c.types-types.result.now c.type_defs.result.now (λ t d. AllByRecursion (λ (x : TypeDef). x.body.at < length t) d) c.types-types.ensures.types c.type_defs.ensures.type_defs
    (bodies_stand c.args.program.now c.types-types.ensures.stands)

pub compile_node-requires-clause-merged_part : goal.compile_node-requires-clause-merged_part
compile_node-requires-clause-merged_part c =
    tree_merged c.types-types.result.now c.see_table.ensures.built c.args.id.at (subst (λ (t : List Row). c.args.id.at < length t) (sym c.types-types.ensures.types) c.requires.belongs)

pub compile_node-requires-clause-compiled : goal.compile_node-requires-clause-compiled
compile_node-requires-clause-compiled c =
    let p = c.args.program.now in
    let v : CellsView = record { cells = c.cells.inside.made.cells; states = c.cells.inside.made.states; sorts = rows_of c.cells.inside.rows.items } in
    along p c.types-types.result.now c.type_defs.result.now (λ t d. AreCompiled t d v.cells v.states c.args.auto.now (length v.states) []) c.types-types.ensures.types c.type_defs.ensures.type_defs
    (to_compiled p v c.args.auto.now (are_merged p c.types-types.ensures.stands (subst (AreBuilt false) c.types-types.ensures.types c.see_table.ensures.built))
    (subst (λ w. Mirrors p w c.args.auto.now) (sym c.cells.view_is) c.requires.mirrors))

pub compile_node-requires-clause-sorted : goal.compile_node-requires-clause-sorted
compile_node-requires-clause-sorted c =
    let p = c.args.program.now in
    let v : CellsView = record { cells = c.cells.inside.made.cells; states = c.cells.inside.made.states; sorts = rows_of c.cells.inside.rows.items } in
    along p c.types-types.result.now c.type_defs.result.now (λ t d. AreSorted t d v.cells v.states v.sorts (length v.states)) c.types-types.ensures.types c.type_defs.ensures.type_defs
    (to_sorted p v c.args.auto.now (are_merged p c.types-types.ensures.stands (subst (AreBuilt false) c.types-types.ensures.types c.see_table.ensures.built))
    (subst (λ w. Mirrors p w c.args.auto.now) (sym c.cells.view_is) c.requires.mirrors))

pub compile_node-requires-clause-bodies : goal.compile_node-requires-clause-bodies
compile_node-requires-clause-bodies c =
    let p = c.args.program.now in
    along p c.types-types.result.now c.type_defs.result.now (λ t d. AreBodies t d c.args.bodies.now) c.types-types.ensures.types c.type_defs.ensures.type_defs
    (are_bodies p.types p.type_defs c.args.bodies.now (bodies_stand p c.types-types.ensures.stands) c.requires.numbered c.requires.any c.requires.any_type)

pub compile_node-requires-clause-marks : goal.compile_node-requires-clause-marks
compile_node-requires-clause-marks c =
    let p = c.args.program.now in
    along p c.types-types.result.now c.type_defs.result.now (λ t d. AreDecidingMarks t d c.args.marks.now) c.types-types.ensures.types c.type_defs.ensures.type_defs
    (marks_decide p.types p.type_defs (guarded (program_tree p) c.requires.sound) c.args.marks.now c.requires.marks)

pub returns-clause-continuation : goal.returns-clause-continuation
returns-clause-continuation c =
    let v : CellsView = record { cells = c.compile_node.new.made.cells; states = c.compile_node.new.made.states; sorts = rows_of c.compile_node.new.rows.items } in
    let types = c.types-types.result.now in
    let merged = tree_merged types c.see_table.ensures.built c.args.id.at (subst (λ (t : List Row). c.args.id.at < length t) (sym c.types-types.ensures.types) c.requires.belongs) in
    subst (λ (t : List Row). continuation_of t v c.in_ok-state.state ≡ Some (tree_at t c.args.id.at)) c.types-types.ensures.types
    (ap as_type c.in_ok-state.ensures.continuation ∙ ap Some (seq_of-pieces (tree_at types c.args.id.at) merged))

pub returns-clause-owners : goal.returns-clause-owners
returns-clause-owners c =
    let p = c.args.program.now in
    let w : CellsView = record { cells = c.cells.inside.made.cells; states = c.cells.inside.made.states; sorts = rows_of c.cells.inside.rows.items } in
    let v : CellsView = record { cells = c.compile_node.new.made.cells; states = c.compile_node.new.made.states; sorts = rows_of c.compile_node.new.rows.items } in
    let all = back_along p c.types-types.result.now c.type_defs.result.now (λ t d. AreAllCompiled t d w.cells v.cells w.states v.states c.compile_node.new.auto) c.types-types.ensures.types c.type_defs.ensures.type_defs
    c.in_ok-state.ensures.compiled in
    subst (λ (x : CellsView). KeepsStates p.types p.types x v) c.cells.view_is
    (compiled_keeps p w v c.args.auto.now c.compile_node.new.auto c.types-types.ensures.stands (subst (AreBuilt false) c.types-types.ensures.types c.see_table.ensures.built) c.requires.sound
    (subst (λ (x : CellsView). Mirrors p x c.args.auto.now) (sym c.cells.view_is) c.requires.mirrors) all)

pub returns-clause-mirrors : goal.returns-clause-mirrors
returns-clause-mirrors c =
    let p = c.args.program.now in
    let w : CellsView = record { cells = c.cells.inside.made.cells; states = c.cells.inside.made.states; sorts = rows_of c.cells.inside.rows.items } in
    let v : CellsView = record { cells = c.compile_node.new.made.cells; states = c.compile_node.new.made.states; sorts = rows_of c.compile_node.new.rows.items } in
    let all = back_along p c.types-types.result.now c.type_defs.result.now (λ t d. AreAllCompiled t d w.cells v.cells w.states v.states c.compile_node.new.auto) c.types-types.ensures.types c.type_defs.ensures.type_defs
    c.in_ok-state.ensures.compiled in
    compiled_mirrors_again p w v c.args.auto.now c.compile_node.new.auto c.types-types.ensures.stands (subst (AreBuilt false) c.types-types.ensures.types c.see_table.ensures.built) c.requires.sound
    (subst (λ (x : CellsView). Mirrors p x c.args.auto.now) (sym c.cells.view_is) c.requires.mirrors) all
    (back_along p c.types-types.result.now c.type_defs.result.now (λ t d. AreSorted t d v.cells v.states v.sorts (length v.states)) c.types-types.ensures.types c.type_defs.ensures.type_defs c.in_ok-state.ensures.sorted)
