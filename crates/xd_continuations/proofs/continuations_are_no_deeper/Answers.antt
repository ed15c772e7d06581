use Rattle.xd_continuations.proofs.NoneDeeperLemmas.{moves_no_deeper}
use Rattle.xd_continuations.proofs.continuations_are_no_deeper.Goals as goal

pub returns : goal.returns
returns c = moves_no_deeper
