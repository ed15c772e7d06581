use Rattle.xd_heads.proofs.HeadListerLemmas.{number_kept, numbers_tell}
use Rattle.xd_heads.proofs.lister.numbers_tell.Goals as goal

pub returns-clause-tell : goal.returns-clause-tell
returns-clause-tell c = numbers_tell

pub returns-clause-stay : goal.returns-clause-stay
returns-clause-stay c types old new k n T i = number_kept types old.cells new.cells k.cells n T i
