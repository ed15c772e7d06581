use Rattle.std.proofs.Common.{◌∙◌, [], ◌∷◌, sym, arith, length-append}
use Rattle.xd_auto.specs.declared.auto.State.{State}
use Rattle.xd_given.specs.Blocks.{IsBlockFor}
use Rattle.xd_given.proofs.FillLemmas.{other_block, tail_block}
use Rattle.xd_given.proofs.Elements.{elements_more}
use Rattle.xd_given.proofs.blocks.blocks_of.Goals as goal
use Rattle.xd_given.proofs.blocks.blocks_of.Goals.{then-is_tail+in_ok-push, else-is_tail+in_ok-push-2}

pub loop-number-preserved : goal.loop-number-preserved
loop-number-preserved g c =
    let p = c.args.of.now.patterns.now in
    let t = c.args.of.now.table.now in
    let b = g.H.Holds.owned c.args.of.now.owner.now c.args.variable in
    let n = c.loop-number.number in
    let point = c.state-point.result in
    let blocks = c.loop-number.blocks.items in
    elim c.if-is_tail.branch [
      | then-is_tail+in_ok-push w ↦
          let v : State = w.left.result in
          rw (w.blocks-is, w.in_ok-push.ensures.items) (
            omega (arith, length-append blocks (v ∷ []), c.loop-number.invariant.0),
            elements_more (λ x s. IsBlockFor p t b c.args.base (record { number = x }) s) blocks n v c.loop-number.invariant.0 c.loop-number.invariant.1
                (tail_block p t b c.args.base n point v c.state-point.ensures.number (sym c.is_tail.ensures ∙ w.if-is_tail.true) w.left.ensures),
          )
      | else-is_tail+in_ok-push-2 w ↦
          let v : State = w.state.result in
          rw (w.blocks-is, w.in_ok-push-2.ensures.items) (
            omega (arith, length-append blocks (v ∷ []), c.loop-number.invariant.0),
            elements_more (λ x s. IsBlockFor p t b c.args.base (record { number = x }) s) blocks n v c.loop-number.invariant.0 c.loop-number.invariant.1
                (other_block p t b c.args.base n point v c.state-point.ensures.number (sym c.is_tail.ensures ∙ w.if-is_tail.false) w.state.ensures.number),
          )
    ]
