use Rattle.xd_lex.specs.Tokens.{start}
use Rattle.xd_lex.proofs.Skipped.{some_token}
use Rattle.xd_lex.proofs.lexer.Lexer.new.Goals as goal

pub returns-in-Ok-clause-some : goal.returns-in-Ok-clause-some
returns-in-Ok-clause-some c = some_token 0 start c.in-Ok.rest.now
