use Rattle.std.proofs.Common.{◌≡◌, arith, length, rules, vec_len, ap, sym, ◌∙◌}
use Rattle.xd_heads.specs.CellsView.{CellsView}
use Rattle.xd_heads.specs.Mirrors.{sorts_at}
use Rattle.xd_heads.specs.Sorts.{row_at, rows_of}
use Rattle.xd_heads.proofs.AreSortedLemmas.{row_of, row_there}
use Rattle.xd_heads.proofs.types.Cells.sorts.Goals as goal

pub index-requires : goal.index-requires
index-requires c =
    let r = c.requires in
    let h = row_there r.mirrors.0 r.mirrors.1 c.args.self.now c.self.inside.rows.items c.args.state r.mirrors.2 r.state (ap (λ (w : CellsView). w.sorts) (sym c.self.view_is)) in
    let n : vec_len c.self.inside.rows ≡ length c.self.inside.rows.items = search rules in
    let e = c.number.ensures in
    omega arith

pub returns : goal.returns
returns c =
    let r = c.requires in
    let rows = c.self.inside.rows.items in
    let h = row_there r.mirrors.0 r.mirrors.1 c.args.self.now rows c.args.state r.mirrors.2 r.state (ap (λ (w : CellsView). w.sorts) (sym c.self.view_is)) in
    let e = c.number.ensures in
    c.deref.ensures.value ∙ row_of rows c.number.result c.index.result.now (omega arith) c.index.ensures ∙ ap (row_at (rows_of rows)) e
    ∙ ap (λ (w : CellsView). sorts_at w c.args.state) c.self.view_is
