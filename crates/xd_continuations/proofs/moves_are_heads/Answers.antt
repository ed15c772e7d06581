use Rattle.xd_continuations.proofs.TheLaws.{moves_are_heads_in, moves_continue_in, moves_decide}
use Rattle.xd_continuations.proofs.moves_are_heads.Goals as goal

pub returns : goal.returns
returns c = record { heads = moves_are_heads_in; go_on = moves_continue_in; decide = moves_decide }
