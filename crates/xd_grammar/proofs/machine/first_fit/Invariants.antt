use Rattle.std.proofs.Common.{◌≡◌, drop}
use Rattle.xd_grammar.specs.Fits.{first_fit}
use Rattle.xd_grammar.specs.Rows.{rows_now}
use Rattle.xd_grammar.proofs.machine.first_fit.Given as goal

abbrev pub invariant-loop-row : goal.invariant-loop-row
invariant-loop-row l = first_fit (rows_now (drop l.row-index l.rows)) l.kind ≡ first_fit (rows_now l.rows) l.kind
