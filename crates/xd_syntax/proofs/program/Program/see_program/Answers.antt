use Rattle.xd_syntax.proofs.ProperTrees.{program_proper}
use Rattle.xd_syntax.proofs.program.Program.see_program.Goals as goal

pub returns : goal.returns
returns c = rw (← c.self.view_is) (program_proper _ c.self.invariant.stands c.self.invariant.proper)
