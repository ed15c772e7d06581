use Rattle.xd_pattern_runs.proofs.FiniteLaw.{finitely_many_reached}
use Rattle.xd_pattern_runs.proofs.Heights.{heights_of_sound, finitely_many_of_sound, few_reached}
use Rattle.xd_pattern_runs.proofs.laws.finitely_many_reached.Goals as goal

pub returns : goal.returns
returns c = record { heights = heights_of_sound; reached = finitely_many_reached; sound = finitely_many_of_sound; few = few_reached }
