-- What a lexer has left.
use Rattle.std.specs.Prelude.{ℕ, ◌+◌, ◌<◌, ◌^◌, Bool, List, [], length, if◌then◌else◌, IsUtf8}
use Rattle.xd_base.specs.declared.Place.{Place}
use Rattle.xd_lex.specs.Tokens.{Lexeme, tokens_from}

-- the tokens that are left: none once the last is taken, else those of the rest of the text
abbrev pub tokens_left : Bool → Place → List ℕ → List Lexeme
tokens_left done p rest = if done then [] else tokens_from 0 p rest

-- a text that begins at this place, and whose places fit
pub record IsPlaced (p : Place) (rest : List ℕ) : Type 0 where
  pub utf8 : IsUtf8 rest
  pub line : p.line + length rest < 2 ^ 64
  pub column : p.column + length rest < 2 ^ 64
