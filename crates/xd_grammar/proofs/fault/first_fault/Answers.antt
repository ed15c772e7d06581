use Rattle.std.proofs.Common.{sym}
use Rattle.xd_grammar.proofs.Stands.{reads_none, reads_more, token_stops, token_sinks, all_read}
use Rattle.xd_grammar.proofs.fault.first_fault.Goals as goal

pub tokens-init : goal.tokens-init
tokens-init c = record { reads = reads_none c.args.part c.args.lexer _ _ _ c.in_ok-machine.ensures; more = c.requires }

pub tokens-preserved : goal.tokens-preserved
tokens-preserved c = record {
  reads = reads_more c.args.part c.args.lexer _ _ _ _ _ _ _ _ _ c.next_token-token.ensures.token c.tokens.invariant.reads (rw (c.terminal.ensures, c.in-Next.is) at c.in_ok-reading.ensures);
  more = c.next_token-token.ensures.more (sym c.if-is_last.ensures);
}

pub returns-in-Syntax : goal.returns-in-Syntax
returns-in-Syntax c = token_stops c.args.part c.args.lexer _ _ _ _ _ _ c.next_token-token.ensures.token c.tokens.invariant.reads (rw (c.terminal.ensures, c.in-Syntax.is) at c.in_ok-reading.ensures)

pub returns-in-TooDeep : goal.returns-in-TooDeep
returns-in-TooDeep c = token_sinks c.args.part c.args.lexer _ _ _ _ _ _ c.next_token-token.ensures.token c.tokens.invariant.reads (rw (c.terminal.ensures, c.in-TooDeep.is) at c.in_ok-reading.ensures)

pub returns-then-is_last : goal.returns-then-is_last
returns-then-is_last c =
    all_read c.args.part c.args.lexer _ _ _ _ (c.next_token-token.ensures.last.0 (sym c.if-is_last.ensures))
    (reads_more c.args.part c.args.lexer _ _ _ _ _ _ _ _ _ c.next_token-token.ensures.token c.tokens.invariant.reads (rw (c.terminal.ensures, c.in-Next.is) at c.in_ok-reading.ensures))
