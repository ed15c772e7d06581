use Rattle.xd_command_laws.proofs.OneAnswer as law
use Rattle.xd_command_laws.proofs.answers_are_one.Goals as goal

pub returns : goal.returns
returns c = record { answers = law.answers_are_one; counts = law.counts_hide_answers; outcomes = law.outcomes_are_one }
