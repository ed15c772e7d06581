use Rattle.std.proofs.Common.{◌≡◌, ◌∙◌, ap, get_or, length, subst, sym}
use Rattle.std.proofs.lemmas.List.{get_or_default}
use Rattle.xd_auto.specs.Automaton.{moves_at}
use Rattle.xd_apart.specs.OverApproximation.{AreBelow, EndsBelow}
use Rattle.xd_apart.proofs.StepLemmas.{divided_closer}
use Rattle.xd_apart.proofs.over_approximation.OverApproximation.divide.Goals as goal

pub set-requires-clause-below : goal.set-requires-clause-below
set-requires-clause-below g c =
    let a = c.narrowed_ends.new.self.over in
    let below = g.met.M.Leads.closed (length a) (moves_at a c.args.clash.state) c.moves-moves.ensures.closed in
    c.in_ok-made.ensures.below (length a) (subst (AreBelow g.M.Leads.ends_of (length a)) (sym c.moves-moves.ensures.value) below) (subst (λ n. EndsBelow n c.in_ok-by.by) (sym c.in_ok-by.ensures.approximation.approximates.count) c.in_ok-by.ensures.narrows.there)

pub returns : goal.returns
returns g c =
    let l = c.args.self.now in
    let b = c.args.auto.now in
    let clash = c.args.clash in
    let h = c.requires.clash in
    let moves = g.M.Move.moves_in (moves_at l.over clash.state) in
    let m = c.index-others-clash.result in
    let w = get_or moves clash.number m in
    let there : m ≡ get_or (g.M.Move.moves_in (moves_at b clash.right)) clash.taken m = rw c.moves-others.ensures.value at c.index-others-clash.is in
    let added : c.ends_at-added.result ≡ g.M.Leads.ends_of m = c.ends_at-added.ensures.is m ∙ ap g.M.Leads.ends_of (sym there) in
    divided_closer g.met.M.DividedMove.kind b l c.narrowed_ends.new.self c.set.new.over clash.state clash.number w m c.in_ok-by.by c.in_ok-by.ensures.approximation c.in_ok-by.ensures.grows h.state
    clash.right h.right (clash.taken, h.taken, sym there) (get_or_default moves clash.number m w h.number) (rw (c.ends_at-ends.ensures.is m, added) at c.in_ok-by.ensures.narrows)
    c.in_ok-made.made.items c.in_ok-set.ensures (rw c.moves-moves.ensures.value at c.in_ok-made.ensures.divides)
