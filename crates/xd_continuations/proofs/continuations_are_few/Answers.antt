use Rattle.xd_continuations.proofs.TheLaws.{sound_recurs_in_tail, finitely_many_in}
use Rattle.xd_continuations.proofs.continuations_are_few.Goals as goal

pub returns : goal.returns
returns c = record { tail = sound_recurs_in_tail; few = finitely_many_in }
