use Rattle.std.proofs.Common.{◌≡◌, Bool, take, get_or, ap, sym, subst, ◌∙◌, ◌&&◌, ◌||◌}
use Rattle.std.specs.List.{list_any}
use Rattle.std.proofs.lemmas.List.Folds.{list_any_more}
use Rattle.xd_doc.proofs.Lists.{all_step}
use Rattle.xd_auto.specs.declared.auto.State.{State}
use Rattle.xd_auto.specs.Automaton.{IsState, moves_at}
use Rattle.xd_boole.specs.Groups.{AllPass, passes_at}
use Rattle.xd_boole.specs.Matching.{any_has}
use Rattle.xd_boole.specs.Points.{state_at}
use Rattle.xd_boole.proofs.Lists.{any_walked, at_itself}
use Rattle.xd_boole.proofs.MatchLemmas.{matching_tells}
use Rattle.xd_boole.proofs.matching.moves_of.Goals as goal

pub add_moves-requires : goal.add_moves-requires
add_moves-requires g c = rw (c.moves.ensures.value, c.deref.ensures.value) c.in_ok-numbers.ensures.within

pub loop-state-preserved : goal.loop-state-preserved
loop-state-preserved g c =
    let a = c.args.auto.now in
    let states = c.args.states.now in
    let i = c.loop-state.state-index in
    let s = get_or states i (state_at 0) in
    let at = at_itself states i (state_at 0) c.loop-state-test.true in
    let next = all_step (IsState a) states i s c.loop-state-test.true at c.loop-state.invariant.left in
    let moves = c.moves.result.now in
    let numbers = c.deref.result.now in
    let has = g.M.Move.has in
    record {
      taken = λ x had t.
          let w : g.row.M.Denot → Bool = λ m. has m x && t m in
          let each : State → Bool = λ q. any_has has x t (g.M.Move.moves_in (moves_at a q)) in
          let tells : list_any (passes_at w moves) numbers ≡ each s
          = rw (c.moves.ensures.value, c.deref.ensures.value) (matching_tells has t c.args.step.now (g.M.Move.moves_in (moves_at a s)) c.in_ok-numbers.numbers.items c.in_ok-numbers.ensures x had) in
          c.in_ok-add_moves.ensures.taken w ∙ ap (λ v. v || list_any (passes_at w moves) numbers) (c.loop-state.invariant.taken x had t)
          ∙ ap (λ v. list_any each (take i states) || v) tells ∙ sym (list_any_more each states i (state_at 0) c.loop-state-test.true);
      inside = λ t h. c.in_ok-add_moves.ensures.all t (c.loop-state.invariant.inside t h) (subst (AllPass t) (sym c.moves.ensures.value) (h s c.moves.ensures.closed));
      left = next.1;
    }

pub returns : goal.returns
returns g c = record {
  taken = λ x had t. c.loop-state.invariant.taken x had t ∙ any_walked (λ (q : State). any_has g.M.Move.has x t (g.M.Move.moves_in (moves_at c.args.auto.now q))) c.args.states.now c.loop-state.state-index c.loop-state-test.false;
  inside = c.loop-state.invariant.inside;
}

pub moves-requires : goal.moves-requires
moves-requires g c =
    (all_step (IsState c.args.auto.now) c.args.states.now c.loop-state.state-index _ c.loop-state-test.true (at_itself c.args.states.now c.loop-state.state-index (state_at 0) c.loop-state-test.true) c.loop-state.invariant.left).0

pub matching-requires : goal.matching-requires
matching-requires g c =
    (all_step (IsState c.args.auto.now) c.args.states.now c.loop-state.state-index _ c.loop-state-test.true (at_itself c.args.states.now c.loop-state.state-index (state_at 0) c.loop-state-test.true) c.loop-state.invariant.left).0
