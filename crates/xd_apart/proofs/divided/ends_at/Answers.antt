use Rattle.std.proofs.Common.{◌≡◌, get_or, length, subst, sym}
use Rattle.xd_auto.specs.Automaton.{moves_at}
use Rattle.xd_apart.specs.OverApproximation.{EndsBelow}
use Rattle.xd_apart.proofs.DivideLemmas.{All-at}
use Rattle.xd_apart.proofs.divided.ends_at.Goals as goal

pub returns-clause-below : goal.returns-clause-below
returns-clause-below g c =
    let n = length c.args.auto.now in
    let moves = moves_at c.args.auto.now c.args.state in
    let m = c.index-moves-number.result in
    let at : m ≡ get_or (g.M.Move.moves_in moves) c.args.number m = rw c.moves-moves.ensures.value at c.index-moves-number.is in
    subst (EndsBelow n) (sym c.ends.ensures.ends) (All-at (λ v. EndsBelow n (g.M.Leads.ends_of v)) (g.M.Move.moves_in moves) c.args.number m c.requires.number at (g.met.M.Leads.closed n moves c.moves-moves.ensures.closed))
