use Rattle.std.proofs.Common.{subst, rules}
use Rattle.std.specs.List.{AllByRecursion}
use Rattle.xd_auto.specs.declared.auto.LabelMove.{LabelMove}
use Rattle.xd_show_solve.specs.Levels.{IsWritten}
use Rattle.xd_show.proofs.ContentLaws.{states_more}
use Rattle.xd_show.proofs.contents.are_all_written.Goals as goal

pub loop-number-preserved : goal.loop-number-preserved
loop-number-preserved c =
    states_more c.args.auto.now c.args.written.now c.loop-number.number c.state.result c.state.ensures.number c.loop-number.invariant
    (subst (AllByRecursion (λ (m : LabelMove). IsWritten c.args.written.now m.content)) c.label_moves.ensures.value (c.are_written.ensures (search rules)))
