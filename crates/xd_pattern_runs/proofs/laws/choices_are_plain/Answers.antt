use Rattle.xd_pattern_runs.proofs.TogetherLaw.{marks_are_variables}
use Rattle.xd_pattern_runs.proofs.StopsLaw.{choices_stop_once}
use Rattle.xd_pattern_runs.proofs.laws.choices_are_plain.Goals as goal

pub returns : goal.returns
returns c = record { marks = marks_are_variables; stops = choices_stop_once }
