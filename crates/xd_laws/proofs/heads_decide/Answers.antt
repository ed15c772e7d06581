use Rattle.xd_laws.proofs.TheLaws.{heads_decide, empty_decides, heads_settle_in}
use Rattle.xd_laws.proofs.heads_decide.Goals as goal

pub returns : goal.returns
returns c = record { items = heads_decide; empty = empty_decides; settle = heads_settle_in }
