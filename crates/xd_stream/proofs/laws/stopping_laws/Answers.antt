use Rattle.xd_stream.proofs.Proper.{spelled_is_proper}
use Rattle.xd_stream.proofs.IsFirstStopLemmas.{accepted_never_stops, one_stop}
use Rattle.xd_stream.proofs.laws.stopping_laws.Goals as goal

pub returns : goal.returns
returns c = record { once = one_stop; never = accepted_never_stops; proper = spelled_is_proper }
