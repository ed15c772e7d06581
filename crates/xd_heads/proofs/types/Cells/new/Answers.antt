use Rattle.std.proofs.Common.{◌≡◌, [], ℕ, Bool, List, ap, sym, subst, ◌∙◌}
use Rattle.xd_heads.specs.CellsView.{CellsView, no_cells}
use Rattle.xd_heads.specs.Mirrors.{Mirrors}
use Rattle.xd_heads.specs.Sorts.{rows_of}
use Rattle.xd_moves.specs.Cells.{Cell}
use Rattle.xd_heads.proofs.Mirrored.{mirrors_none}
use Rattle.xd_heads.proofs.types.Cells.new.Goals as goal

same : (c : CellsView) → c.cells ≡ [] → c.states ≡ [] → c.sorts ≡ [] → c ≡ no_cells
same c e f g =
    ap (λ (cs : List Cell). let v : CellsView = record { cells = cs; states = c.states; sorts = c.sorts } in v) e
    ∙ ap (λ (os : List ℕ). let v : CellsView = record { cells = []; states = os; sorts = c.sorts } in v) f
    ∙ ap (λ (bs : List (List Bool)). let v : CellsView = record { cells = []; states = []; sorts = bs } in v) g

pub returns-clause-mirrors : goal.returns-clause-mirrors
returns-clause-mirrors c p =
    subst (λ v. Mirrors p v [])
    (sym (same (record { cells = c.new.result; states = c.new-3.result; sorts = rows_of c.new-4.result.items }) c.new.ensures c.new-3.ensures (ap rows_of c.new-4.ensures.items)))
    (mirrors_none p)
