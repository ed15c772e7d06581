use Rattle.std.proofs.Common.{◌≡◌, ◌+◌, ◌∷◌, [], length, length-append, arith, ap, sym, subst, ◌∙◌}
use Rattle.std.specs.List.{AllByRecursion}
use Rattle.xd_doc.proofs.Lists.{all_push}
use Rattle.xd_auto.specs.Automaton.{IsState}
use Rattle.xd_boole.specs.Merging.{stand_in}
use Rattle.xd_boole.proofs.MergeLemmas.{all_themselves, itself_push}
use Rattle.xd_boole.proofs.merging.each_itself.Goals as goal

pub loop-number-preserved : goal.loop-number-preserved
loop-number-preserved c =
    let a = c.args.auto.now in
    let same = c.loop-number.same.items in
    let t = c.state.result in
    let is = c.in_ok-push.ensures.items in
    let so_far = c.loop-number.invariant in
    record {
      count = ap length is ∙ length-append same (t ∷ []) ∙ ap (λ n. n + 1) so_far.count;
      states = subst (AllByRecursion (IsState a)) (sym is) (all_push (IsState a) same t so_far.states c.state.ensures.belongs);
      itself = λ s. subst (λ xs. stand_in xs s ≡ s) (sym is) (itself_push same t s (c.state.ensures.number ∙ sym so_far.count) (so_far.itself s));
    }

pub returns : goal.returns
returns c =
    let so_far = c.loop-number.invariant in
    let all : c.loop-number.number ≡ length c.args.auto.now = omega (arith, c.loop-number-test.false, c.loop-number.auto.number-end, c.len-number-end.ensures.value) in
    all_themselves c.args.auto.now c.loop-number.same.items (so_far.count ∙ all) so_far.states so_far.itself
