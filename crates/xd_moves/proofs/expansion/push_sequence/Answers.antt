use Rattle.std.proofs.Common.{◌≡◌, ◌-◌, ◌<◌, ◌++◌, map, true, false, cond, length, drop, take, get_or, arith, ap, subst, ◌∙◌}
use Rattle.xd_syntax.specs.Table.{tree_at}
use Rattle.xd_syntax.specs.Types.{type_numbers}
use Rattle.xd_syntax.specs.declared.types.TypeId.{TypeId}
use Rattle.xd_sound.proofs.EmptyLemmas.{part_in}
use Rattle.xd_moves.specs.Pieces.{piece_tree}
use Rattle.xd_moves.specs.declared.piece.Piece.{Piece}
use Rattle.xd_moves.specs.Found.{PutsSequence, StayBounded, continuation}
use Rattle.xd_moves.proofs.PutsTasksLemmas.{chosen_cell, pushed_next, kept_all, kept_none, node_piece, numbers_drop, piece_cell}
use Rattle.xd_moves.proofs.expansion.push_sequence.Goals as goal
use Rattle.xd_moves.proofs.expansion.push_sequence.Goals.{then-not-marks-part, else-not-marks-part}

no_type : TypeId
no_type = record { at = 0 }

pub bounds-marks-part : goal.bounds-marks-part
unfolding no_type
bounds-marks-part g c =
    let parts = c.args.parts.now in
    let n = c.loop-at.at in
    let t = c.loop-at-test.true in
    let u = c.loop-at.auto.at in
    let l : n - 1 < length parts = omega arith in
    let h = part_in (length c.args.types.now) parts (n - 1) no_type c.requires.parts l in
    let a = ap (λ (p : Piece). p.node) c.whole-part.ensures in
    let m = c.requires.marks in
    omega arith

pub stand_in-requires-clause-there : goal.stand_in-requires-clause-there
unfolding no_type
stand_in-requires-clause-there g c =
    let parts = c.args.parts.now in
    let n = c.loop-at.at in
    let t = c.loop-at-test.true in
    let u = c.loop-at.auto.at in
    let l : n - 1 < length parts = omega arith in
    let h = part_in (length c.args.types.now) parts (n - 1) no_type c.requires.parts l in
    let a = ap (λ (p : Piece). p.node) c.whole-part.ensures in
    omega arith

pub loop-at-preserved : goal.loop-at-preserved
unfolding no_type
loop-at-preserved g c =
    let types = c.args.types.now in
    let parts = c.args.parts.now in
    let n = c.loop-at.at in
    let t = c.loop-at-test.true in
    let u = c.loop-at.auto.at in
    let l : n - 1 < length parts = omega arith in
    let i = (get_or parts (n - 1) no_type).at in
    let part = c.whole-part.result in
    let w : part ≡ node_piece i = c.whole-part.ensures in
    let a : part.node ≡ i = ap (λ (p : Piece). p.node) w in
    let marks = c.args.marks.now in
    let old = c.args.tasks.now.items in
    let v : c.len-others.result ≡ length old = (let o = c.len-others.ensures in omega (arith, c.args.tasks.now.ok.0)) in
    let kept : c.if-not-marks-part.tasks.items ≡ cond (get_or marks i false) c.loop-at.tasks.items (take (length old) c.loop-at.tasks.items) =
    elim c.if-not-marks-part.branch [
      | then-not-marks-part w ↦
          kept_none (get_or marks i false) c.loop-at.tasks.items (take (length old) c.loop-at.tasks.items) c.if-not-marks-part.tasks.items
          (subst (λ j. get_or marks j false ≡ false) a w.if-not-marks-part.true)
          (ap (λ v. v.items) w.tasks-is ∙ w.truncate.ensures.items ∙ ap (λ k. take k c.loop-at.tasks.items) v)
      | else-not-marks-part w ↦
          kept_all (get_or marks i false) c.loop-at.tasks.items (take (length old) c.loop-at.tasks.items) c.if-not-marks-part.tasks.items
          (subst (λ j. get_or marks j false ≡ true) a w.if-not-marks-part.false)
          (ap (λ v. v.items) w.tasks-is)
    ] in
    record {
      pushed =
          pushed_next types marks c.args.cells.now c.args.behind old (type_numbers (drop n parts)) c.loop-at.rest c.loop-at.cells c.loop-at.tasks.items c.loop-at.invariant.pushed
          i (part_in (length types) parts (n - 1) no_type c.requires.parts l) c.if-not-marks-part.tasks.items kept
          part w c.stand_in.result c.stand_in.ensures.there (c.stand_in.ensures.tree ∙ ap (piece_tree types) w)
          c.put.new.self c.in_ok-rest.rest
          c.in_ok-rest.ensures.links c.in_ok-rest.ensures.within.1
          c.in_ok-rest.ensures.list
          c.push.new.self.items c.in_ok-push.ensures.items (type_numbers (drop (n - 1) parts)) (numbers_drop parts n no_type t u);
      chosen = λ b.
          chosen_cell (g.S.StandIns.chosen types c.args.stand_ins.now) c.loop-at.cells c.put.new.self (piece_cell c.stand_in.result c.loop-at.rest) c.stand_in.ensures.chosen c.in_ok-rest.ensures.links
          (c.loop-at.invariant.chosen b);
    }

pub returns-clause-cells : goal.returns-clause-cells
returns-clause-cells g c = c.loop-at.invariant.pushed.cells_added

pub returns-clause-bounded : goal.returns-clause-bounded
returns-clause-bounded g c =
    let types = c.args.types.now in
    let t = c.loop-at-test.false in
    let z : c.loop-at.at ≡ 0 = omega arith in
    subst (λ n. StayBounded types c.args.cells.now c.loop-at.cells (map (tree_at types) (type_numbers (drop n c.args.parts.now)) ++ continuation types c.args.cells.now c.args.behind)) z c.loop-at.invariant.pushed.bounded

pub returns-clause-tasks : goal.returns-clause-tasks
returns-clause-tasks g c =
    let types = c.args.types.now in
    let t = c.loop-at-test.false in
    let z : c.loop-at.at ≡ 0 = omega arith in
    subst (λ n. PutsSequence types c.args.marks.now c.loop-at.cells c.args.tasks.now.items c.loop-at.tasks.items (type_numbers (drop n c.args.parts.now)) (continuation types c.args.cells.now c.args.behind)) z
    c.loop-at.invariant.pushed.tasks

pub returns-clause-chosen : goal.returns-clause-chosen
returns-clause-chosen g c = c.loop-at.invariant.chosen
