use Rattle.std.proofs.Common.{◌+◌, ◌*◌}
use Rattle.xd_syntax.specs.Exprs.{clause_numbers, expr_numbers}
use Rattle.xd_check_steps.specs.Found.{found_in}
use Rattle.xd_check_steps.specs.Known.{IsKnown}
use Rattle.xd_check.proofs.Loops.{ArgumentsLoop, PartsLoop}
use Rattle.xd_check_steps.proofs.Ceilings.{bodies, ceiling}
use Rattle.xd_check.proofs.ClauseLoop.{ClausesLoop}
use Rattle.xd_check.proofs.checker.Checker.+expressions.Given as goal

abbrev pub decreases-in_expression : goal.decreases-in_expression
decreases-in_expression l = 4 * l.id.at + 3

abbrev pub decreases-in_parts : goal.decreases-in_parts
decreases-in_parts l = 4 * ceiling (expr_numbers l.parts.now) + 1

abbrev pub decreases-in_call : goal.decreases-in_call
decreases-in_call l = 4 * ceiling (expr_numbers l.arguments.now) + 2

abbrev pub decreases-in_arguments : goal.decreases-in_arguments
decreases-in_arguments l = 4 * ceiling (expr_numbers l.arguments.now) + 1

abbrev pub decreases-in_clauses : goal.decreases-in_clauses
decreases-in_clauses l = 4 * ceiling (bodies (clause_numbers l.matched.clauses.now)) + 2

abbrev pub decreases-in_match : goal.decreases-in_match
decreases-in_match l = 4 * ceiling (bodies (clause_numbers l.compiled.clauses.now)) + 1

abbrev pub decreases-in_clause : goal.decreases-in_clause
decreases-in_clause l = 4 * l.clause.clause.body.at + 4

abbrev pub invariant-in_parts-loop-part : goal.invariant-in_parts-loop-part
invariant-in_parts-loop-part l = record {
  walk : PartsLoop l.self.sound l.initial.auto' l.auto' l.initial.variables l.variables l.initial.store l.store (found_in l.initial.findings) (found_in l.findings) l.parts l.part-index l.states.items;
  known : IsKnown l.auto' l.store l.findings.known;
}

abbrev pub invariant-in_arguments-loop-number : goal.invariant-in_arguments-loop-number
invariant-in_arguments-loop-number l = record {
  walk : ArgumentsLoop l.self.sound l.initial.auto' l.auto' l.initial.variables l.variables l.initial.store l.store (found_in l.initial.findings) (found_in l.findings) l.parameters l.arguments l.number;
  known : IsKnown l.auto' l.store l.findings.known;
}

abbrev pub invariant-in_match-loop-number : goal.invariant-in_match-loop-number
invariant-in_match-loop-number l = record {
  walk : ClausesLoop l.self.sound l.compiled.patterns.now l.compiled.place l.initial.auto' l.auto' l.initial.variables l.variables l.initial.store l.store (found_in l.initial.findings) (found_in l.findings) l.compiled.clauses.now l.number l.states.items l.fn.scrutinee l.remaining;
  known : IsKnown l.auto' l.store l.findings.known;
}
