use Rattle.xd_continuations.proofs.TheLaws as laws
use Rattle.xd_continuations.proofs.states_accept.Goals as goal

pub returns : goal.returns
returns c = laws.states_accept
