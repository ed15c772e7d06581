-- The lines of a goal.
use Rattle.std.specs.Prelude.{◌+◌, ◌^◌, ◌<◌, length}
use Rattle.xd_proof.specs.declared.proof.ProofGoal.{ProofGoal}

-- the numbers of its lines, and of the line after the last one, are numbers of lines
pub record LinesFit (g : ProofGoal) : Type 0 where
  pub fits : g.line + 3 + length g.rights.items + length g.cases.items < 2 ^ 64
