use Rattle.xd_pattern_runs.proofs.FirstRunLaw.{accepts_by_runs, first_moves_first}
use Rattle.xd_pattern_runs.proofs.laws.first_moves_first.Goals as goal

pub returns : goal.returns
returns c = record { accepts = accepts_by_runs; first = first_moves_first }
