use Rattle.xd_lex.proofs.Skipped.{left_last, left_more}
use Rattle.xd_lex.proofs.lexer.Lexer.next_token.Goals as goal

pub returns-clause-last : goal.returns-clause-last
returns-clause-last c = left_last _ _ _ _ c.is_last-self-inside.ensures

pub returns-clause-more : goal.returns-clause-more
returns-clause-more c = left_more _ _ _ _ c.is_last-self-inside.ensures
