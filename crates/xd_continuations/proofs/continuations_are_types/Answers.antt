use Rattle.xd_continuations.proofs.TheLaws.{pieces_mean, meanings_are_one, programs_are_merged}
use Rattle.xd_continuations.proofs.continuations_are_types.Goals as goal

pub returns : goal.returns
returns c = record { pieces = pieces_mean; one = meanings_are_one; merged = programs_are_merged }
