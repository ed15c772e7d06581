use Rattle.std.proofs.Common.{◌<◌, length, reverse}
use Rattle.xd_grammar.proofs.Stands.{ReadsTo}
use Rattle.xd_grammar.proofs.fault.first_fault.Given as goal

abbrev pub invariant-tokens : goal.invariant-tokens
invariant-tokens l = record {
  reads : ReadsTo l.fn.part l.fn.lexer l.lexer l.machine.reading l.machine.depth (reverse l.machine.stack.items);
  more : 0 < length l.lexer;
}

abbrev pub decreases-tokens : goal.decreases-tokens
decreases-tokens l = length l.lexer
