use Rattle.xd_pattern_runs.proofs.ChoicesLemmas.{steps_find, options_find}
use Rattle.xd_pattern_runs.proofs.laws.steps_find_choices.Goals as goal

pub returns : goal.returns
returns c = record { steps = steps_find; options = options_find }
