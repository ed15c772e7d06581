-- Tokens of the code as those of the definition, and when a text is refused.
use Rattle.std.specs.Prelude.{ℕ, Bool, true, false, List}
use Rattle.xd_lex.specs.declared.Kind.{Kind}
use Rattle.xd_lex.specs.declared.Kind.TheVariants as kinds
use Rattle.xd_lex.specs.declared.lexer.Token.{Token}
use Rattle.xd_lex.specs.declared.lexer.LexError.{LexError}
use Rattle.xd_lex.specs.declared.lexer.LexError.TheVariants as errors
use Rattle.xd_lex.specs.Tokens.{IsNotUtf8At, Lexeme}

abbrev pub lexeme_of : Token → Lexeme
lexeme_of t = record { kind = t.kind; text = t.text.now; place = t.place }

-- the kinds that end a list of tokens
abbrev pub is_last : Kind → Bool
is_last kinds.End = true
is_last (kinds.Broken f) = true
is_last k = false

-- why there are no tokens
abbrev pub IsRefused : LexError → List ℕ → Type 0
IsRefused errors.NoMemory bytes = Unit {0}
IsRefused (errors.NotUtf8 p) bytes = IsNotUtf8At bytes p
