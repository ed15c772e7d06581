use Rattle.std.proofs.Common.{refl, subst, get_or, length, ◌<◌, arith, rules}
use Rattle.std.specs.List.{AllByRecursion}
use Rattle.xd_auto.specs.declared.auto.LabelMove.{LabelMove}
use Rattle.xd_auto.specs.declared.auto.State.{State}
use Rattle.xd_show_solve.specs.Levels.{IsWritten}
use Rattle.xd_show.proofs.ContentLaws.{level_more}
use Rattle.xd_show.proofs.contents.is_level_written.Goals as goal

pub loop-number-preserved : goal.loop-number-preserved
loop-number-preserved c =
    let none : State = record { number = 0 } in
    let s : State = get_or c.args.states.now c.loop-number.number none in
    let l : c.loop-number.number < length c.args.states.now = omega arith in
    level_more c.args.auto.now c.args.written.now c.args.states.now c.loop-number.number s none refl l c.loop-number.invariant
    (subst (AllByRecursion (λ (m : LabelMove). IsWritten c.args.written.now m.content)) c.label_moves.ensures.value (c.are_written.ensures (search rules)))
