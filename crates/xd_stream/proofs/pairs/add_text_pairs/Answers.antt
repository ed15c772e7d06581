use Rattle.std.proofs.Common.{◌≡◌, ◌<◌, List, length, get_or, refl, ap, ◌∙◌, arith}
use Rattle.std.specs.List.{list_any}
use Rattle.xd_auto.specs.Automaton.{moves_at}
use Rattle.xd_auto.specs.declared.auto.TextMove.{TextMove}
use Rattle.xd_empty.specs.Parts.{is_marked}
use Rattle.xd_stream.proofs.WaitingPairLemmas.{text_one, text_all, added_marked, not_marked}
use Rattle.xd_stream.proofs.AllPassLemmas.{any_pushed}
use Rattle.xd_stream.proofs.pairs.add_text_pairs.Goals as goal
use Rattle.xd_stream.proofs.pairs.add_text_pairs.Goals.{then-marks-number+in_ok-push, else-marks-number}

pub loop-number-preserved : goal.loop-number-preserved
loop-number-preserved c =
    let moves : List TextMove = (moves_at c.args.auto.now c.args.pair.present).texts in
    let m : TextMove = c.index-moves-number.result in
    let is : m ≡ get_or moves c.in-Some.number m = rw c.text_moves-moves.ensures.value at c.index-moves-number.is in
    let lt : c.in-Some.number < length moves = c.in-Some.ensures.some in
    record {
      within = omega arith;
      same = text_one c.args.marks.now c.args.text.now c.args.pair.first moves c.args.into.now.items c.loop-number.into.items c.if-marks-number.into.items c.loop-number.from c.in-Some.number m c.in-Some.ensures.next lt is c.loop-number.invariant.same
          (elim c.if-marks-number.branch [
            | then-marks-number+in_ok-push w ↦ λ f. added_marked f c.loop-number.into.items c.if-marks-number.into.items (record { first = c.args.pair.first; present = m.rest }) (is_marked c.args.marks.now m.rest) (cc) (ap (list_any f) (ap (λ v. v.items) w.into-is ∙ w.in_ok-push.ensures.items) ∙ any_pushed f c.loop-number.into.items (record { first = c.args.pair.first; present = m.rest }))
            | else-marks-number w ↦ λ f. not_marked f c.loop-number.into.items c.if-marks-number.into.items (record { first = c.args.pair.first; present = m.rest }) (is_marked c.args.marks.now m.rest) (cc) (rw w.into-is refl)
          ]);
    }

pub returns : goal.returns
returns c = text_all c.args.marks.now c.args.text.now c.args.pair.first (moves_at c.args.auto.now c.args.pair.present).texts c.args.into.now.items c.loop-number.into.items c.loop-number.from c.in_default.ensures.next c.loop-number.invariant.same
