use Rattle.std.proofs.Common.{◌≢◌, ◌∙◌, arith}
use Rattle.xd_bind.proofs.CopiedLemmas.{copied_more}
use Rattle.xd_bind.proofs.Automata.{same_automata}
use Rattle.xd_bind.proofs.copying.copied.Goals as goal

pub loop-number-preserved : goal.loop-number-preserved
loop-number-preserved c =
    let a = c.args.auto.now in
    let n = c.loop-number.number in
    let at = c.state-state.result in
    let is = c.state-state.ensures.number in
    record {
      count = c.in_ok-copy_texts.ensures.states ∙ c.in_ok-copy_labels.ensures.states ∙ c.loop-number.invariant.count;
      done = copied_more a c.loop-number.made c.copy_labels.new.made c.copy_texts.new.made n at is (c.loop-number.invariant.waiting at (omega (arith, is)) c.state-state.ensures.belongs)
          c.in_ok-copy_labels.ensures c.in_ok-copy_texts.ensures c.loop-number.invariant.done;
      waiting = λ s le lt.
          let ne : s.number ≢ at.number = omega (arith, is) in
          c.in_ok-copy_texts.ensures.others s ne ∙ c.in_ok-copy_labels.ensures.others s ne ∙ c.loop-number.invariant.waiting s (omega arith) lt;
    }

pub returns : goal.returns
returns c = same_automata c.loop-number.made c.args.auto.now c.loop-number.invariant.count (λ s here. c.loop-number.invariant.done s (let e = c.len-number-end.ensures.value in omega (arith, c.loop-number.invariant.count)))
