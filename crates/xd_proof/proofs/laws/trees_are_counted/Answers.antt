use Rattle.xd_proof.proofs.SpellsTreesLemmas as counting
use Rattle.xd_proof.proofs.laws.trees_are_counted.Goals as goal

pub returns : goal.returns
returns c = counting.trees_are_counted
