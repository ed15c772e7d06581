use Rattle.std.proofs.Common.{◌∙◌, ◌<◌, ◌+◌, length, sym, ap, subst, arith}
use Rattle.xd_doc.proofs.Lists.{length_push}
use Rattle.xd_auto.specs.Automaton.{moves_at}
use Rattle.xd_show_solve.specs.Equations.{side_in}
use Rattle.xd_show_solve.specs.Levels.{AreStateSums, IsReady, IsStateSide}
use Rattle.std.specs.List.{AllByRecursion}
use Rattle.xd_show_solve.specs.Systems.{AllStand}
use Rattle.xd_show_solve.proofs.LevelLaws.{written_stay}
use Rattle.xd_show_solve.proofs.ReduceLaws.{all_stand_more}
use Rattle.xd_show_solve.proofs.StateTypes.{all_ready, state_sums_more}
use Rattle.xd_same_types.proofs.Tables.{keeps_then}
use Rattle.xd_show_solve.proofs.states.level_sums.Goals as goal

pub state_sum-requires-clause-ready : goal.state_sum-requires-clause-ready
state_sum-requires-clause-ready c =
    let a = c.args.auto.now in
    let states = c.args.level.now.states.items in
    let k = c.loop-number.number in
    let s = c.index-state.result.now in
    let l : k < length states = omega (arith, c.loop-number-test.true, c.len-number-end.ensures, c.args.level.now.states.ok.0) in
    subst (λ ps. AllByRecursion (IsReady c.args.written.now ps) (moves_at a s).labels) (sym c.deref.ensures.value)
    (all_ready c.args.written.now c.args.level.now.places.items (moves_at a s).labels (c.requires.contents k s l c.index-state.ensures) (c.requires.whole.closed k s l c.index-state.ensures).0)

pub state_sum-requires-clause-written : goal.state_sum-requires-clause-written
state_sum-requires-clause-written c = written_stay c.args.pool.now.types c.loop-number.pool.types c.loop-number.invariant.keeps c.args.written.now c.requires.written

pub loop-number-preserved : goal.loop-number-preserved
loop-number-preserved c =
    let inv = c.loop-number.invariant in
    let a = c.args.auto.now in
    let rows = c.args.pool.now.types in
    let now = c.loop-number.pool.types in
    let new = c.state_sum.new.pool.types in
    let states = c.args.level.now.states.items in
    let places = c.args.level.now.places.items in
    let written = c.args.written.now in
    let sums = c.loop-number.sums.items in
    let k = c.loop-number.number in
    let s = c.index-state.result.now in
    let t = c.in_ok-sum.sum in
    let l : k < length states = omega (arith, c.loop-number-test.true, c.len-number-end.ensures, c.args.level.now.states.ok.0) in
    let e = sym c.in_ok-push.ensures.items in
    let side = subst (λ ps. IsStateSide a now written ps s (side_in new t)) c.deref.ensures.value c.in_ok-sum.ensures.side in
    record {
      keeps = keeps_then _ _ _ inv.keeps c.state_sum.ensures.keeps;
      count = ap length c.in_ok-push.ensures.items ∙ length_push sums t ∙ ap (λ n. n + 1) inv.count;
      stand = subst (AllStand new) e (all_stand_more now new c.state_sum.ensures.keeps sums t inv.stand c.in_ok-sum.ensures.stands);
      sums = subst (AreStateSums a rows written places states new) e
          (state_sums_more a rows now new inv.keeps c.state_sum.ensures.keeps written places states sums k s t c.requires.written inv.stand (sym inv.count) l c.index-state.ensures inv.sums side);
    }
