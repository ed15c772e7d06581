use Rattle.std.proofs.Common.{[], ◌∷◌, refl, ap, ◌∙◌}
use Rattle.xd_syntax.specs.Table.{tree_at}
use Rattle.xd_moves.proofs.PutsTasksLemmas.{chosen_cell, piece_cell}
use Rattle.xd_moves.proofs.WorkedTaskLemmas.{content_none, content_put}
use Rattle.xd_moves.proofs.contents.one_piece.Goals as goal

pub returns-clause-content : goal.returns-clause-content
returns-clause-content g c =
    content_put c.args.types.now c.args.cells.now c.args.cells.now c.put.new.self [] 0 c.in_ok-number.number c.args.part.at (content_none c.args.types.now c.args.cells.now)
    c.stand_in.result c.stand_in.ensures.there (c.stand_in.ensures.tree ∙ ap (tree_at c.args.types.now) c.at.ensures)
    c.in_ok-number.ensures.links c.in_ok-number.ensures.within.1
    c.in_ok-number.ensures.list (tree_at c.args.types.now c.args.part.at ∷ []) refl

pub returns-clause-chosen : goal.returns-clause-chosen
returns-clause-chosen g c =
    chosen_cell (g.S.StandIns.chosen c.args.types.now c.args.stand_ins.now) c.args.cells.now c.put.new.self (piece_cell c.stand_in.result 0) c.stand_in.ensures.chosen c.in_ok-number.ensures.links
