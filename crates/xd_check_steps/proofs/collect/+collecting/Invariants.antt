use Rattle.std.proofs.Common.{◌+◌, ◌*◌}
use Rattle.std.specs.List.{AllByRecursion}
use Rattle.xd_syntax.specs.Exprs.{clause_numbers, expr_numbers}
use Rattle.xd_patterns.specs.CompiledProgram.{IsLinearPattern}
use Rattle.xd_check_steps.proofs.Ceilings.{bodies, ceiling}
use Rattle.xd_check_steps.proofs.collect.+collecting.Given as goal

abbrev pub decreases-collect : goal.decreases-collect
decreases-collect l = 4 * l.id.at + 3

abbrev pub decreases-collect_each : goal.decreases-collect_each
decreases-collect_each l = 4 * ceiling (expr_numbers l.parts.now) + 1

abbrev pub decreases-collect_clauses : goal.decreases-collect_clauses
decreases-collect_clauses l = 4 * ceiling (bodies (clause_numbers l.clauses.now)) + 1

abbrev pub invariant-collect_each-loop-part : goal.invariant-collect_each-loop-part
invariant-collect_each-loop-part l = AllByRecursion (IsLinearPattern l.sound.patterns) l.ids.items

abbrev pub invariant-collect_clauses-loop-clause : goal.invariant-collect_clauses-loop-clause
invariant-collect_clauses-loop-clause l = AllByRecursion (IsLinearPattern l.sound.patterns) l.ids.items
