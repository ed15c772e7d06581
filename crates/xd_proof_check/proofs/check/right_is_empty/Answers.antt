use Rattle.std.proofs.Common.{length, arith}
use Rattle.xd_proof_check.proofs.GoalLemmas.{id_there}
use Rattle.xd_proof_check.proofs.check.right_is_empty.Goals as goal

pub bounds-marks-at : goal.bounds-marks-at
bounds-marks-at c =
    let h = id_there (length c.args.marks.now) c.args.rights.now c.args.number c.in-Some.id.now c.requires c.in-Some.ensures in
    omega (arith, c.at.ensures)
