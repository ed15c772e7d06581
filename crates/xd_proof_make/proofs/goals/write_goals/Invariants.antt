use Rattle.std.proofs.Common.{take}
use Rattle.std.specs.List.{AllZip}
use Rattle.xd_goals.specs.Rows.{row_at}
use Rattle.xd_heads.specs.Mirrors.{Mirrors}
use Rattle.xd_syntax.specs.Kept.{ProgramTable}
use Rattle.xd_proof_make.specs.Known.{AreKnown}
use Rattle.xd_proof_make.specs.Made.{IsGoalMade}
use Rattle.xd_proof_make.proofs.goals.write_goals.Given as goal

abbrev pub invariant-loop-number : goal.invariant-loop-number
invariant-loop-number l =
    (p : ProgramTable) → Mirrors p l.cells l.auto' → AreKnown p l.cells l.states → AllZip (λ g m. IsGoalMade p l.cells l.auto' l.table.nodes l.numbers (row_at l.table.rows g) m) (take l.number-index l.goals) l.made.items
