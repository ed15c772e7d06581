use Rattle.xd_given.proofs.projecting.project.Goals as goal

pub project_marked-requires-clause-marks : goal.project_marked-requires-clause-marks
project_marked-requires-clause-marks c = rw c.deref.ensures.value at c.in_ok-marks.ensures
