use Rattle.std.proofs.Common.{arith, ◌≡◌, ◌≤◌, ◌∙◌, false, length, sym, subst, take, ap}
use Rattle.std.proofs.lemmas.List.{length-set}
use Rattle.xd_doc.specs.StoreNodes.{no_items}
use Rattle.xd_auto.specs.Automaton.{moves_at, state_number}
use Rattle.xd_auto.proofs.Closed.{same_state}
use Rattle.xd_empty.specs.Uses.{lists_by_state}
use Rattle.xd_empty.proofs.UsesLemmas.{length-lists}
use Rattle.xd_empty.proofs.SearchLemmas.{another, empty_witness, searching_flag, searching_finds}
use Rattle.xd_empty.proofs.finding.find_empty.Goals as goal
use Rattle.xd_empty.proofs.finding.find_empty.Goals.{then-is_last+in_ok-find, else-is_last}

pub loop-number-preserved : goal.loop-number-preserved
loop-number-preserved c =
    let a = c.args.auto.now in
    let first = c.args.uses.now.first in
    let before = c.loop-number.invariant in
    let s = c.state-state.result in
    let fs = c.loop-number.found in
    let now = c.loop-number.uses in
    let uses = lists_by_state now in
    let waiting = now.waiting.items in
    let is : first ≤ state_number s = omega (arith, c.state-state.ensures.number, c.loop-number.auto.number) in
    elim c.if-is_last.branch [
      | then-is_last+in_ok-find w ↦
          let new = w.find.new.uses in
          let last = sym c.is_last.ensures ∙ w.if-is_last.true in
          rw (w.uses-is, w.found-is) (record {
            first = w.find.ensures.first ∙ before.first;
            lists = omega (arith, length-lists now.first now.lists.items, length-lists new.first new.lists.items, ap length w.in_ok-find.ensures.uses ∙ length-set uses (state_number s) _, before.lists);
            older = subst (λ f. take f w.find.new.found ≡ take f fs) before.first w.find.ensures.older ∙ before.older;
            searching = λ ds start.
                let i = before.searching ds start in
                let made = empty_witness a ds s last in
                rw (w.in_ok-find.ensures.found, w.in_ok-find.ensures.uses, w.in_ok-find.ensures.waiting, w.empty.ensures)
                (searching_flag a ds first c.loop-number.number _ _ _ 0 (searching_finds a ds first c.loop-number.number fs uses waiting 0 i s no_items c.state-state.ensures.belongs is made)
                (λ t e unknown. absurd (another a ds first c.loop-number.number fs uses waiting 0 i s no_items c.state-state.ensures.belongs is made t unknown (e ∙ sym c.state-state.ensures.number))));
          })
      | else-is_last w ↦
          rw (w.uses-is, w.found-is) (record {
            first = before.first;
            lists = before.lists;
            older = before.older;
            searching = λ ds start.
                searching_flag a ds first c.loop-number.number fs uses waiting 0 (before.searching ds start)
                (λ t e unknown. subst (λ q. (moves_at a q).last ≡ false) (same_state s t (c.state-state.ensures.number ∙ sym e)) (sym c.is_last.ensures ∙ w.if-is_last.false));
          })
    ]

pub returns-clause-searching : goal.returns-clause-searching
returns-clause-searching c = λ ds start.
    let all : c.loop-number.number ≡ length c.args.auto.now = omega (arith, c.len-number-end.ensures.value, c.loop-number.auto, c.loop-number.invariant.lists) in
    rw (← all) (c.loop-number.invariant.searching ds start)
