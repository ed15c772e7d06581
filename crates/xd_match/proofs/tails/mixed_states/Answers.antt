use Rattle.std.proofs.Common.{ℕ, ◌≡◌, ◌+◌, Bool, false, List, [], ◌∷◌, ◌++◌, Vec, Global, arith, length, ap, sym, subst, ◌∙◌}
use Rattle.xd_patterns.specs.Held.{marking_of}
use Rattle.xd_match.proofs.IsSpreadLemmas.{AreSeeded, are_tails, seeded_even, seeded_spread, seeded_waits}
use Rattle.xd_match.proofs.tails.mixed_states.Goals as goal
use Rattle.xd_match.proofs.tails.mixed_states.Goals.{then-not-is_even+in_ok-push-2, else-not-is_even}

pub loop-number-preserved : goal.loop-number-preserved
loop-number-preserved c =
    let i = c.loop-number.invariant in
    let a = c.args.auto.now in
    let k = marking_of c.args.marked.now in
    let n = c.loop-number.number in
    let mixed = c.loop-number.mixed.items in
    let waiting = c.loop-number.waiting.items in
    record {
      end_is = i.end_is;
      seeded = subst (λ (x : List Bool). AreSeeded a k x c.if-not-is_even.waiting.items (n + 1)) (sym c.in_ok-push.ensures.items) (elim c.if-not-is_even.branch [
        | then-not-is_even+in_ok-push-2 w ↦
            subst (λ (x : List ℕ). AreSeeded a k (mixed ++ false ∷ []) x (n + 1)) (sym (ap (λ (v : Vec ℕ Global). v.items) w.waiting-is ∙ w.in_ok-push-2.ensures.items)) (seeded_waits a k mixed waiting n i.seeded)
        | else-not-is_even w ↦
            subst (λ (x : List ℕ). AreSeeded a k (mixed ++ false ∷ []) x (n + 1)) (sym (ap (λ (v : Vec ℕ Global). v.items) w.waiting-is))
            (seeded_even a k mixed waiting n c.state.result c.state.ensures.number (c.is_even.ensures w.if-not-is_even.false) i.seeded)
      ]);
    }

pub spread-requires-clause-waiting : goal.spread-requires-clause-waiting
spread-requires-clause-waiting c =
    let i = c.loop-number.invariant in
    let e = i.end_is in
    let t = c.loop-number-test.false in
    let u = c.loop-number.auto.number-end in
    let b = c.in_ok-behind.ensures.count in
    seeded_spread c.args.auto.now (marking_of c.args.marked.now) c.in_ok-behind.behind c.loop-number.mixed.items c.loop-number.waiting.items c.loop-number.number (omega arith) i.seeded

pub returns : goal.returns
returns c =
    let i = c.loop-number.invariant in
    let a = c.args.auto.now in
    let k = marking_of c.args.marked.now in
    let e = i.end_is in
    let t = c.loop-number-test.false in
    let u = c.loop-number.auto.number-end in
    let n : c.loop-number.number ≡ length a = omega arith in
    are_tails a k c.in_ok-behind.behind c.loop-number.waiting.items c.loop-number.mixed.items c.spread.new.mixed.items c.in_ok-behind.ensures
    (subst (AreSeeded a k c.loop-number.mixed.items c.loop-number.waiting.items) n i.seeded) c.in_ok-spread.ensures.count c.in_ok-spread.ensures.spread
