use Rattle.std.proofs.Common.{◌≡◌, ◌++◌, ◌+◌, ◌*◌, ◌<◌, ◌≤◌, ℕ, drop, length, flat_map}
use Rattle.std.specs.List.{AllByRecursion}
use Rattle.xd_syntax.specs.PlacedTable.{placed_at}
use Rattle.xd_syntax.specs.ExpressionTable.{expression_at, clauses_of}
use Rattle.xd_syntax.specs.Exprs.{expr_numbers, clause_numbers}
use Rattle.xd_syntax.specs.NameFaults.{expression_faults, clause_faults}
use Rattle.xd_names.specs.Knows.{whole}
use Rattle.xd_names.proofs.ExprLemmas.{ceiling, bodies}
use Rattle.xd_names.proofs.expressions.+expressions.Given as goal

abbrev pub decreases-in_expression : goal.decreases-in_expression
decreases-in_expression l = 2 * l.id.at + 1

abbrev pub decreases-in_parts : goal.decreases-in_parts
decreases-in_parts l = 2 * ceiling (expr_numbers l.parts.now)

abbrev pub decreases-in_clauses : goal.decreases-in_clauses
decreases-in_clauses l = 2 * ceiling (bodies (clause_numbers l.clauses.now))

abbrev pub invariant-in_parts-loop-part : goal.invariant-in_parts-loop-part
invariant-in_parts-loop-part l = record {
  scope : l.scope ≡ l.initial.scope;
  faults : l.faults.items ++ flat_map (λ i. expression_faults (whole l.program) l.initial.scope (expression_at l.program.patterns l.program.exprs i)) (expr_numbers (drop l.part-index l.parts))
      ≡ l.initial.faults.items ++ flat_map (λ i. expression_faults (whole l.program) l.initial.scope (expression_at l.program.patterns l.program.exprs i)) (expr_numbers l.parts);
  belong : AllByRecursion (λ i. i < length l.program.exprs) (expr_numbers (drop l.part-index l.parts));
  below : ceiling (expr_numbers (drop l.part-index l.parts)) ≤ ceiling (expr_numbers l.parts);
}

abbrev pub invariant-in_clauses-loop-clause : goal.invariant-in_clauses-loop-clause
invariant-in_clauses-loop-clause l = record {
  scope : l.scope ≡ l.initial.scope;
  faults : l.faults.items ++ clause_faults (whole l.program) l.initial.scope (clauses_of (placed_at l.program.patterns) (expression_at l.program.patterns l.program.exprs) (clause_numbers (drop l.clause-index l.clauses)))
      ≡ l.initial.faults.items ++ clause_faults (whole l.program) l.initial.scope (clauses_of (placed_at l.program.patterns) (expression_at l.program.patterns l.program.exprs) (clause_numbers l.clauses));
  patterns : AllByRecursion (λ (c : ℕ × ℕ). c.0 < length l.program.patterns) (clause_numbers (drop l.clause-index l.clauses));
  exprs : AllByRecursion (λ (c : ℕ × ℕ). c.1 < length l.program.exprs) (clause_numbers (drop l.clause-index l.clauses));
  below : ceiling (bodies (clause_numbers (drop l.clause-index l.clauses))) ≤ ceiling (bodies (clause_numbers l.clauses));
}
