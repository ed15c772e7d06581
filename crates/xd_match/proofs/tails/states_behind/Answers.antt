use Rattle.std.proofs.Common.{arith, sym, subst, ◌∙◌, inl, inr}
use Rattle.std.proofs.lemmas.Bool.{cases_eq}
use Rattle.xd_auto.specs.declared.auto.State.{State}
use Rattle.xd_auto.specs.Automaton.{moves_at, state_number}
use Rattle.xd_auto.proofs.Closed.{state_of_number}
use Rattle.xd_auto.specs.Leading.{text_ends}
use Rattle.xd_match.specs.Tails.{HasEdgeTo, LeadsFrom}
use Rattle.xd_match.proofs.IsSpreadLemmas.{all_lead, lead_from}
use Rattle.xd_match.proofs.tails.states_behind.Goals as goal

pub loop-number-preserved : goal.loop-number-preserved
loop-number-preserved c =
    let i = c.loop-number.invariant in
    let a = c.args.auto.now in
    let g = c.loop-number.behind in
    let h = c.add_moves-in-loop-number.new.behind in
    let t = c.state-state.result in
    let first = c.in_ok-add_moves.ensures in
    let second = c.in_ok-add_moves-2.ensures in
    let one = c.add_moves.new.behind in
    let here : LeadsFrom a (HasEdgeTo h t) t =
    record { texts = all_lead text_ends (HasEdgeTo one t) (HasEdgeTo h t) (λ q. second.kept (state_number q) (state_number t)) (moves_at a t).texts _ first.added; labels = second.added } in
    record {
      count = second.count ∙ first.count ∙ i.count;
      end_is = i.end_is;
      edges = λ s lt. elim (cases_eq (state_number s) c.loop-number.number) [
        | inl q ↦ subst (λ (u : State). LeadsFrom a (HasEdgeTo h u) u) (state_of_number t s (c.state-state.ensures.number ∙ sym q)) here
        | inr q ↦ lead_from a (HasEdgeTo g s) (HasEdgeTo h s) (λ q m. second.kept _ _ (first.kept (state_number q) (state_number s) m)) s (i.edges s (omega arith))
      ];
    }
