-- What contracts see of cells.
use Rattle.std.specs.Prelude.{ℕ, Bool, List, []}
use Rattle.xd_moves.specs.Cells.{Cell}

-- continuations, each as a piece and an older continuation, and for each state the number of its
-- continuation, and which heads of its type are texts
pub record CellsView : Type 0 where
  pub cells : List Cell
  pub states : List ℕ
  pub sorts : List (List Bool)

abbrev pub no_cells : CellsView
no_cells = record { cells = []; states = []; sorts = [] }
