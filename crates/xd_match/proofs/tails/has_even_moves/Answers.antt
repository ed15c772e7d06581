use Rattle.std.proofs.Common.{◌≡◌, arith, length, get_or, ap, sym, subst, ◌∙◌}
use Rattle.xd_auto.specs.Automaton.{IsState, moves_at}
use Rattle.xd_auto.specs.Leading.{EndsAre}
use Rattle.xd_patterns.specs.Held.{marking_of, variables_in}
use Rattle.xd_patterns.specs.Marked.{marks_at}
use Rattle.xd_patterns.specs.Variables.{words_of}
use Rattle.xd_match.specs.Tails.{EndsGoOnWith}
use Rattle.xd_match.proofs.IsSpreadLemmas.{each_more}
use Rattle.xd_match.proofs.tails.has_even_moves.Goals as goal

pub ends_go_on_with-requires : goal.ends_go_on_with-requires
ends_go_on_with-requires g c =
    let a = c.args.auto.now in
    let m = c.index-steps-number.result in
    let end = c.loop-number.invariant.end_is in
    let is : m ≡ get_or (g.M.Move.moves_in (moves_at a c.args.state)) c.loop-number.number m = rw c.moves-steps.ensures.value at c.index-steps-number.is in
    subst (EndsAre (IsState a)) (ap g.M.Leads.ends_of (sym is) ∙ sym c.ends-ends.ensures.ends)
    (g.met.M.Leads.closed (length a) (moves_at a c.args.state) c.moves-steps.ensures.closed c.loop-number.number m (omega (arith, end, c.loop-number-test.true)))

pub loop-number-preserved : goal.loop-number-preserved
loop-number-preserved g c =
    let i = c.loop-number.invariant in
    let k = marking_of c.args.marked.now in
    let vs = variables_in c.args.marked.now in
    let own = words_of vs c.args.own.now in
    let ms = g.M.Move.moves_in (moves_at c.args.auto.now c.args.state) in
    let at = c.loop-number.number in
    let m = c.index-steps-number.result in
    let is : m ≡ get_or ms at m = rw c.moves-steps.ensures.value at c.index-steps-number.is in
    record {
      end_is = i.end_is;
      even = each_more ms at m (λ j q. (marks_at (k c.args.state) g.M.Leads.KIND j ≡ own) × EndsGoOnWith c.args.auto.now k own (g.M.Leads.ends_of q)) (omega (arith, i.end_is, c.loop-number-test.true)) is i.even (
        ap (λ kind. marks_at (k c.args.state) kind at) (sym c.KIND.ensures) ∙ sym c.marks-marks.ensures ∙ ap (words_of vs) (c.are_same.ensures c.if-not-are_same.false),
        subst (EndsGoOnWith c.args.auto.now k own) c.ends-ends.ensures.ends (c.ends_go_on_with.ensures c.if-not-ends_go_on_with.false),
      );
    }

pub returns : goal.returns
returns g c e n m lt = c.loop-number.invariant.even n m (omega (arith, c.loop-number.invariant.end_is, c.loop-number-test.false, lt))
