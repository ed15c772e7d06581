use Rattle.xd_pattern_runs.proofs.LinearFaults.{no_fault_is_linear}
use Rattle.xd_pattern_runs.proofs.NamesBindNothing.{names_bind_nothing}
use Rattle.xd_pattern_runs.proofs.ClausesLaw.{clauses_are_linear, parts_are_linear}
use Rattle.xd_pattern_runs.proofs.laws.programs_are_linear.Goals as goal

pub returns : goal.returns
returns c = record { types = names_bind_nothing; patterns = no_fault_is_linear; clauses = clauses_are_linear; parts = parts_are_linear }
