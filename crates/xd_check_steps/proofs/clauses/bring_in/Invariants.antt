use Rattle.std.proofs.Common.{◌≡◌, ◌++◌, vec_len}
use Rattle.xd_check_steps.specs.InScope.{given_variables}
use Rattle.xd_check_steps.proofs.clauses.bring_in.Given as goal

abbrev pub invariant-loop-given : goal.invariant-loop-given
invariant-loop-given l = given_variables l.fn.givens.items ++ l.fn.variables ≡ given_variables l.givens.items ++ l.variables

abbrev pub decreases-loop-given : goal.decreases-loop-given
decreases-loop-given l = vec_len l.givens
