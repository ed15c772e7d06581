use Rattle.std.proofs.Common.{◌≡◌, ◌<◌, arith, length, get_or, ap, sym, subst, ◌∙◌}
use Rattle.xd_auto.specs.Automaton.{moves_at, state_number}
use Rattle.xd_auto.specs.Leading.{EndsAre}
use Rattle.xd_auto.proofs.EndsLemmas.{ends_are}
use Rattle.xd_match.specs.Tails.{HasEdgeTo}
use Rattle.xd_match.proofs.IsSpreadLemmas.{each_more}
use Rattle.xd_match.proofs.tails.add_moves.Goals as goal

pub add_ends-requires-clause-ends : goal.add_ends-requires-clause-ends
add_ends-requires-clause-ends g c =
    let a = c.args.auto.now in
    let m = c.step-item.result in
    let l = ap length c.moves-step-items.ensures.value in
    let is : m ≡ get_or (g.M.Move.moves_in (moves_at a c.args.state)) c.loop-step.step-index m = rw c.moves-step-items.ensures.value at c.step-item.is in
    ends_are _ _ (λ t below. omega (arith, below, c.requires.count, c.loop-step.invariant.count)) c.ends.result
    (subst (EndsAre (λ t. state_number t < length a)) (ap g.M.Leads.ends_of (sym is) ∙ sym c.ends.ensures.ends)
    (g.met.M.Leads.closed (length a) (moves_at a c.args.state) c.moves-step-items.ensures.closed c.loop-step.step-index m (omega (arith, l, c.loop-step-test.true))))

pub loop-step-preserved : goal.loop-step-preserved
loop-step-preserved g c =
    let i = c.loop-step.invariant in
    let e = c.in_ok-add_ends.ensures in
    let ms = g.M.Move.moves_in (moves_at c.args.auto.now c.args.state) in
    let m = c.step-item.result in
    let l = ap length c.moves-step-items.ensures.value in
    let is : m ≡ get_or ms c.loop-step.step-index m = rw c.moves-step-items.ensures.value at c.step-item.is in
    let old = c.loop-step.behind in
    let new = c.add_ends.new.behind in
    let s = c.args.state in
    record {
      count = e.count ∙ i.count;
      kept = λ v w k. e.kept v w (i.kept v w k);
      added = each_more ms c.loop-step.step-index m (λ k q. EndsAre (HasEdgeTo new s) (g.M.Leads.ends_of q)) (omega (arith, l, c.loop-step-test.true)) is
          (λ k q b. ends_are (HasEdgeTo old s) (HasEdgeTo new s) (λ t. e.kept (state_number t) (state_number s)) (g.M.Leads.ends_of (get_or ms k q)) (i.added k q b)) (subst (EndsAre (HasEdgeTo new s)) c.ends.ensures.ends e.added);
    }
