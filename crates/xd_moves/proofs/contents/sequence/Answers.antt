use Rattle.std.proofs.Common.{◌∙◌, ◌-◌, ◌<◌, map, length, drop, get_or, arith, ap, sym, subst}
use Rattle.std.proofs.lemmas.List.{drop_all}
use Rattle.xd_syntax.specs.Table.{tree_at}
use Rattle.xd_syntax.specs.Types.{type_numbers}
use Rattle.xd_syntax.specs.declared.types.TypeId.{TypeId}
use Rattle.xd_sound.proofs.EmptyLemmas.{part_in}
use Rattle.xd_moves.specs.Cells.{AreChosen}
use Rattle.xd_moves.specs.Found.{IsContent}
use Rattle.xd_moves.proofs.PutsTasksLemmas.{chosen_cell, numbers_drop, piece_cell}
use Rattle.xd_moves.proofs.WorkedTaskLemmas.{content_none, content_put}
use Rattle.xd_moves.proofs.contents.sequence.Goals as goal

no_type : TypeId
no_type = record { at = 0 }

pub loop-at-init : goal.loop-at-init
loop-at-init g c = record {
  content =
      let types = c.args.types.now in
      let parts = c.args.parts.now in
      subst (λ cells. IsContent types c.args.cells.now cells (map (tree_at types) (type_numbers (drop (length parts) parts))) 0) (sym c.make_room.ensures)
      (subst (λ ps. IsContent types c.args.cells.now c.args.cells.now (map (tree_at types) (type_numbers ps)) 0) (sym (drop_all (length parts) parts (omega arith)))
      (content_none types c.args.cells.now));
  chosen = λ a. subst (AreChosen (g.S.StandIns.chosen c.args.types.now c.args.stand_ins.now)) (sym c.make_room.ensures) a;
}

pub stand_in-requires-clause-there : goal.stand_in-requires-clause-there
unfolding no_type
stand_in-requires-clause-there g c =
    let parts = c.args.parts.now in
    let n = c.loop-at.at in
    let t = c.loop-at-test.true in
    let u = c.loop-at.auto.at in
    let l : n - 1 < length parts = omega arith in
    let h = part_in (length c.args.types.now) parts (n - 1) no_type c.requires.parts l in
    let a = c.at.ensures in
    omega arith

pub loop-at-preserved : goal.loop-at-preserved
unfolding no_type
loop-at-preserved g c =
    let types = c.args.types.now in
    let parts = c.args.parts.now in
    let n = c.loop-at.at in
    let t = c.loop-at-test.true in
    let u = c.loop-at.auto.at in
    let l : n - 1 < length parts = omega arith in
    let i = (get_or parts (n - 1) no_type).at in
    record {
      content =
          content_put types c.args.cells.now c.loop-at.cells c.put.new.self (map (tree_at types) (type_numbers (drop n parts))) c.loop-at.number c.in_ok-number.number i c.loop-at.invariant.content
          c.stand_in.result c.stand_in.ensures.there (c.stand_in.ensures.tree ∙ ap (tree_at types) c.at.ensures)
          c.in_ok-number.ensures.links c.in_ok-number.ensures.within.1
          c.in_ok-number.ensures.list
          (map (tree_at types) (type_numbers (drop (n - 1) parts))) (ap (map (tree_at types)) (numbers_drop parts n no_type t u));
      chosen = λ a.
          chosen_cell (g.S.StandIns.chosen types c.args.stand_ins.now) c.loop-at.cells c.put.new.self (piece_cell c.stand_in.result c.loop-at.number) c.stand_in.ensures.chosen c.in_ok-number.ensures.links
          (c.loop-at.invariant.chosen a);
    }
