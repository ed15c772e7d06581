use Rattle.std.proofs.Common.{length}
use Rattle.xd_answer.proofs.texts.+find.Given as goal

abbrev pub decreases-find : goal.decreases-find
decreases-find l = length l.texts.now
