use Rattle.std.proofs.Common.{◌≡◌, ◌+◌, ◌≤◌, drop}
use Rattle.xd_lex.specs.Tokens.{past}
use Rattle.xd_lex.proofs.place.past.Given as goal

abbrev pub invariant-loop-b : goal.invariant-loop-b
invariant-loop-b l = record {
  line : l.line ≤ l.fn.place.line + l.b-index;
  column : l.column ≤ l.fn.place.column + l.b-index;
  rest : past (record { line = l.line; column = l.column }) (drop l.b-index l.bytes) ≡ past l.fn.place l.bytes;
}
