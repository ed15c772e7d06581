use Rattle.std.proofs.Common.{length}
use Rattle.xd_lex.proofs.Skipped.{Skipped}
use Rattle.xd_lex.proofs.first.cut_token.Given as goal

abbrev pub invariant-gaps : goal.invariant-gaps
invariant-gaps l = Skipped l.text l.rest

abbrev pub decreases-gaps : goal.decreases-gaps
decreases-gaps l = length l.rest
