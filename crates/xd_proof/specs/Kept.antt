-- What is so of every proof.
use Rattle.std.specs.Prelude.{◌<◌, List, length}
use Rattle.std.specs.List.{AllByRecursion}
use Rattle.xd_proof.specs.Cases.{IsTree}
use Rattle.xd_proof.specs.LinesFit.{LinesFit}
use Rattle.xd_proof.specs.declared.proof.ProofGoal.{ProofGoal}

-- the steps of each case are those of a choice tree
abbrev pub AreTrees : ProofGoal → Type 0
AreTrees g = AllByRecursion IsTree g.cases.items

pub record IsProof (goals : List ProofGoal) : Type 0 where
  pub some : 0 < length goals
  pub lines : AllByRecursion LinesFit goals
  pub trees : AllByRecursion AreTrees goals
