use Rattle.std.proofs.Common.{All, ◌≡◌, ◌<◌, ◌++◌, length, map}
use Rattle.xd_lex.specs.LexedTokens.{lexeme_of}
use Rattle.xd_lex.specs.Tokens.{tokens_of}
use Rattle.xd_lex.specs.Spellings.{IsSpelling}
use Rattle.xd_lex.proofs.lexer.tokens.Given as goal

abbrev pub invariant-tokens : goal.invariant-tokens
invariant-tokens l = record {
  told : map lexeme_of l.all.items ++ l.lexer ≡ tokens_of l.bytes;
  spelled : All (λ token. IsSpelling token.kind token.text.now) l.all.items;
  more : 0 < length l.lexer;
}

abbrev pub decreases-tokens : goal.decreases-tokens
decreases-tokens l = length l.lexer
