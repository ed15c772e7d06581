use Rattle.std.proofs.Common.{◌+◌}
use Rattle.xd_plain.specs.PlainPrograms.{expression_of, arguments_of, clauses_of, program_of}
use Rattle.xd_plain.proofs.PlainMeaningLemmas.{expression_weight, arguments_weight, clauses_weight, call_weight}
use Rattle.xd_plain.proofs.evaluate.+value.Given as goal

abbrev pub decreases-value_within : goal.decreases-value_within
decreases-value_within l = expression_weight (call_weight (program_of l.run.program.now).functions l.deep) (expression_of l.expression.now)

abbrev pub decreases-tagged_within : goal.decreases-tagged_within
decreases-tagged_within l = expression_weight (call_weight (program_of l.run.program.now).functions l.deep) (expression_of l.content.now) + 1

abbrev pub decreases-joined_within : goal.decreases-joined_within
decreases-joined_within l = let K = call_weight (program_of l.run.program.now).functions l.deep in
    expression_weight K (expression_of l.first.now) + expression_weight K (expression_of l.rest.now) + 1

abbrev pub decreases-called_within : goal.decreases-called_within
decreases-called_within l = let K = call_weight (program_of l.run.program.now).functions l.deep in
    arguments_weight K (arguments_of l.arguments.now) + K l.function.now + 2

abbrev pub decreases-matched_within : goal.decreases-matched_within
decreases-matched_within l = let K = call_weight (program_of l.run.program.now).functions l.deep in
    expression_weight K (expression_of l.scrutinee.now) + clauses_weight K (clauses_of l.clauses.now) + 1

abbrev pub decreases-values_within : goal.decreases-values_within
decreases-values_within l = arguments_weight (call_weight (program_of l.run.program.now).functions l.deep) (arguments_of l.arguments.now)

abbrev pub decreases-chosen_within : goal.decreases-chosen_within
decreases-chosen_within l = clauses_weight (call_weight (program_of l.run.program.now).functions l.deep) (clauses_of l.clauses.now)

abbrev pub decreases-call_within : goal.decreases-call_within
decreases-call_within l = call_weight (program_of l.run.program.now).functions l.deep l.name.now + 1
