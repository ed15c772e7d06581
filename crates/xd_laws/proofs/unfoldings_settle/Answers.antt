use Rattle.xd_laws.proofs.TheLaws.{ways_settle, fits_settles, fits_is_within_some}
use Rattle.xd_laws.proofs.unfoldings_settle.Goals as goal

pub returns : goal.returns
returns c = record { ways = ways_settle; fits = fits_settles; some = fits_is_within_some }
