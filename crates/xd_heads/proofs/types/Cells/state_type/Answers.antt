use Rattle.std.proofs.Common.{◌≡◌, Some, ap, sym, subst, ◌∙◌}
use Rattle.xd_syntax.specs.Tree.{seq_of}
use Rattle.xd_auto.specs.Automaton.{state_number}
use Rattle.xd_heads.specs.CellsView.{CellsView}
use Rattle.xd_moves.specs.Found.{continuation}
use Rattle.xd_heads.specs.Sorts.{rows_of}
use Rattle.xd_heads.specs.States.{number_at}
use Rattle.xd_heads.specs.Mirrors.{Mirrors}
use Rattle.xd_heads.proofs.Mirrored.{type_of_number}
use Rattle.xd_heads.proofs.types.Cells.state_type.Goals as goal

pub continuation_type-requires-clause-shallow : goal.continuation_type-requires-clause-shallow
continuation_type-requires-clause-shallow c s =
    let p = c.args.sound.now in
    let v : CellsView = record { cells = c.self.inside.made.cells; states = c.self.inside.made.states; sorts = rows_of c.self.inside.rows.items } in
    let m = subst (λ (w : CellsView). Mirrors p w c.requires.mirrors.0) (sym c.self.view_is) c.requires.mirrors.1 in
    let n : number_at v.states (state_number c.args.state) ≡ Some c.in-Some.number = sym (c.continuation.ensures ∙ ap (number_at v.states) c.number.ensures) ∙ c.in-Some.is in
    m.shallow s c.args.state (seq_of (continuation p.types v.cells c.in-Some.number)) (type_of_number p.types v c.args.state c.in-Some.number n)
