use Rattle.std.proofs.Common.{◌<◌, ◌≤◌, List, map, drop, length}
use Rattle.std.specs.List.{AllByRecursion}
use Rattle.xd_syntax.specs.Table.{Row, tree_at}
use Rattle.xd_syntax.specs.Types.{type_numbers}
use Rattle.xd_continuations.specs.Expansion.{task}
use Rattle.xd_moves.specs.Cells.{Cell}
use Rattle.xd_moves.specs.Found.{PutsTasks, continuation}
use Rattle.xd_moves.proofs.expansion.push_options.Given as goal

abbrev pub invariant-loop-at : goal.invariant-loop-at
invariant-loop-at l =
    (types : List Row) (cells : List Cell) → AllByRecursion (λ i. i < length types) (type_numbers l.parts) → l.behind ≤ length cells →
    PutsTasks types cells l.fn.tasks.items l.tasks.items (map (task (continuation types cells l.behind)) (map (tree_at types) (type_numbers (drop l.at l.parts))))
