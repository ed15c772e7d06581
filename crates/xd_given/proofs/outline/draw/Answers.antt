use Rattle.std.proofs.Common.{◌≡◌, ◌+◌, ◌∙◌, ℕ, sym, subst, arith}
use Rattle.xd_auto.specs.Automaton.{Automaton}
use Rattle.xd_points.specs.Tables.{point_count}
use Rattle.xd_given.specs.Outline.{IsDrawnTo}
use Rattle.xd_given.proofs.DrawingLemmas.{drawn_left, drawn_none, drawn_other}
use Rattle.xd_given.proofs.outline.draw.Goals as goal
use Rattle.xd_given.proofs.outline.draw.Goals.{then-is_left, else-is_left}

pub loop-number-init : goal.loop-number-init
loop-number-init c = drawn_none c.args.patterns.now c.args.table.now c.in_ok-drawing.drawing (c.in_ok-drawing.ensures ∙ c.points.ensures)

pub state-point-requires : goal.state-point-requires
state-point-requires c = omega (arith, c.loop-number.invariant.sized, c.requires, c.loop-number-test.true)

pub loop-number-preserved : goal.loop-number-preserved
loop-number-preserved c =
    let p = c.args.patterns.now in
    let t = c.args.table.now in
    let n = c.loop-number.number in
    let old = c.loop-number.drawing in
    let at = c.state-point.result in
    elim c.if-is_left.branch [
      | then-is_left w ↦
          subst (λ (v : Automaton). IsDrawnTo p t (n + 1) v) (sym w.drawing-is)
          (drawn_left p t n old c.loop-number.invariant at c.state-point.ensures.number w.cut.new.auto (sym c.is_left.ensures ∙ w.if-is_left.true) w.cut.ensures.cut w.cut.ensures.others)
      | else-is_left w ↦
          subst (λ (v : Automaton). IsDrawnTo p t (n + 1) v) (sym w.drawing-is)
          (drawn_other p t n old c.loop-number.invariant at c.state-point.ensures.number (sym c.is_left.ensures ∙ w.if-is_left.false))
    ]

pub returns : goal.returns
returns c =
    let same : c.loop-number.number ≡ point_count c.args.table.now = omega arith in
    subst (λ (n : ℕ). IsDrawnTo c.args.patterns.now c.args.table.now n c.loop-number.drawing) same c.loop-number.invariant
