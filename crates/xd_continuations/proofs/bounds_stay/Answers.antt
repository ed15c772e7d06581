use Rattle.xd_continuations.proofs.TheLaws.{bounds_stay, bounds_grow}
use Rattle.xd_continuations.proofs.bounds_stay.Goals as goal

pub returns : goal.returns
returns c = record { bounds = bounds_stay; grow = bounds_grow }
