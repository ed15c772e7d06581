use Rattle.std.proofs.Common.{◌≡◌, ◌∷◌, [], ◌++◌, ◌∙◌, length, arith, sym, ap, length-append}
use Rattle.xd_boole.proofs.UniversalLemmas.{marks_more}
use Rattle.xd_boole.proofs.universal.universal_states.Goals as goal

pub loop-number-preserved : goal.loop-number-preserved
loop-number-preserved c =
    let old = c.loop-number.marks.items in
    let mark = c.is_universal.result in
    let is : c.push.new.self.items ≡ old ++ mark ∷ [] = c.in_ok-push.ensures.items in
    let longer = ap length is in
    record {
      count = omega (arith, longer, length-append old (mark ∷ []), c.loop-number.invariant.count);
      universal = marks_more c.args.auto.now old c.push.new.self.items mark c.state.result is (c.state.ensures.number ∙ sym c.loop-number.invariant.count) c.is_universal.ensures c.loop-number.invariant.universal;
    }
