use Rattle.std.proofs.Common.{◌≡◌, ◌<◌, true, false, ◌∙◌, sym, ap, length, get_or, [], map, take_all, arith}
use Rattle.std.proofs.lemmas.List.{get_or_default}
use Rattle.xd_auto.specs.declared.auto.State.{State}
use Rattle.xd_auto.specs.declared.auto.LabelMove.{LabelMove}
use Rattle.xd_given.specs.Blocks.{there}
use Rattle.xd_given.specs.Chosen.{chosen, label_onto}
use Rattle.xd_given.proofs.ChosenLemmas.{label_onto_is, one_passed, one_taken}
use Rattle.xd_given.proofs.blocks.block_labels.Goals as goal
use Rattle.xd_given.proofs.blocks.block_labels.Goals.{then-holds+in_ok-class+in_ok-push, else-holds}

-- any state, and any move
abbrev some_state : State
some_state = record { number = 0 }

abbrev some_move : LabelMove
some_move = record { class = record { names = []; except = true }; content = record { number = 0 }; rest = record { number = 0 } }

pub loop-number-preserved : goal.loop-number-preserved
loop-number-preserved g c =
    let b = g.H.Holds.owned c.args.owner.now c.args.variable in
    let xs = c.label_moves-moves.result.now in
    let i = c.loop-number.number in
    let within : i < length xs = c.loop-number-test.true in
    elim c.if-holds.branch [
      | then-holds+in_ok-class+in_ok-push w ↦
          let picked : b.element c.args.state i ≡ true = sym c.holds.ensures ∙ w.if-holds.true in
          let m = w.index-moves-number.result in
          let onto = label_onto_is (there c.args.places.now) (there c.args.blocks.now) m w.in_ok-class.class _ _ w.in_ok-class.ensures.same (ap (λ n. get_or c.args.places.now n some_state) w.number.ensures)
          (ap (λ n. get_or c.args.blocks.now n some_state) w.number-then-holds.ensures) in
          rw (w.labels-is, w.in_ok-push.ensures.items)
          (one_taken (label_onto (there c.args.places.now) (there c.args.blocks.now)) (b.element c.args.state) xs i m c.loop-number.labels.items _ within w.index-moves-number.is picked onto c.loop-number.invariant)
      | else-holds w ↦
          let passed : b.element c.args.state i ≡ false = sym c.holds.ensures ∙ w.if-holds.false in
          let m = get_or xs i some_move in
          rw w.labels-is
          (one_passed (label_onto (there c.args.places.now) (there c.args.blocks.now)) (b.element c.args.state) xs i m c.loop-number.labels.items within (get_or_default xs i some_move m within) passed c.loop-number.invariant)
    ]

pub returns : goal.returns
returns g c =
    let b = g.H.Holds.owned c.args.owner.now c.args.variable in
    c.loop-number.invariant
    ∙ ap (λ ms. map (label_onto (there c.args.places.now) (there c.args.blocks.now)) (chosen (b.element c.args.state) ms))
    (take_all c.loop-number.number c.label_moves-moves.result.now (omega arith) ∙ c.label_moves-moves.ensures.value)
