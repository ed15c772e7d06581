use Rattle.std.proofs.Common.{◌∷◌, List, ap, ◌∙◌}
use Rattle.xd_syntax.specs.Tree.{Tree, Star}
use Rattle.xd_syntax.specs.Table.{tree_at}
use Rattle.xd_moves.specs.Found.{continuation}
use Rattle.xd_moves.proofs.PutsTasksLemmas.{bounded_cell, chosen_cell, piece_cell}
use Rattle.xd_moves.proofs.expansion.push_turn.Goals as goal

pub returns-clause-bounded : goal.returns-clause-bounded
returns-clause-bounded g c =
    let K : List Tree = continuation c.args.types.now c.args.cells.now c.args.behind in
    bounded_cell c.args.types.now c.args.cells.now c.put.new.self (piece_cell c.stand_in.result c.args.behind) (Star (tree_at c.args.types.now c.args.part.at) ∷ K) c.in_ok-rest.ensures.links
    (ap (λ T. T ∷ K) (c.stand_in.ensures.tree ∙ c.requires.star))

pub returns-clause-chosen : goal.returns-clause-chosen
returns-clause-chosen g c =
    chosen_cell (g.S.StandIns.chosen c.args.types.now c.args.stand_ins.now) c.args.cells.now c.put.new.self (piece_cell c.stand_in.result c.args.behind) c.stand_in.ensures.chosen c.in_ok-rest.ensures.links
