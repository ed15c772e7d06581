use Rattle.xd_laws.proofs.SafePrograms.{values_are_allowed, calls_are_safe, accepted_programs_are_safe}
use Rattle.xd_laws.proofs.accepted_programs_are_safe.Goals as goal

pub returns : goal.returns
returns c = record { values = values_are_allowed; calls = calls_are_safe; programs = accepted_programs_are_safe }
