-- The tokens that a cursor has left: the next one, and those of a lexer after it.
use Rattle.std.specs.Prelude.{◌≡◌, ◌<◌, true, false, List, [], ◌∷◌, Option, Some, None, length}
use Rattle.xd_lex.specs.Tokens.{Lexeme}
use Rattle.xd_lex.specs.LexedTokens.{lexeme_of, is_last}
use Rattle.xd_lex.specs.Spellings.{IsSpelling}
use Rattle.xd_parse_trees.specs.declared.cursor.Lookahead.{Lookahead}
use Rattle.xd_grammar.specs.Text.{kind_terminal}

abbrev pub lexemes_left : Option Lookahead → List Lexeme → List Lexeme
lexemes_left None ls = []
lexemes_left (Some next) ls = lexeme_of next.token ∷ ls

-- it is known what the token is to the grammar, and tokens stand after it just where it isn't the
-- last
pub record IsAhead (next : Lookahead) (ls : List Lexeme) : Type 0 where
  pub terminal : next.terminal ≡ kind_terminal next.token.kind next.token.text.now
  pub spelled : IsSpelling next.token.kind next.token.text.now
  pub last : is_last next.token.kind ≡ true → ls ≡ []
  pub more : is_last next.token.kind ≡ false → 0 < length ls

abbrev pub IsInFront : Option Lookahead → List Lexeme → Type 0
IsInFront None ls = Unit {0}
IsInFront (Some next) ls = IsAhead next ls
