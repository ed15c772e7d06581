-- The first token of a text, and what stands around it.
use Rattle.std.specs.Prelude.{◌≡◌, ℕ, List, ◌∷◌, ◌++◌}
use Rattle.xd_base.specs.declared.Place.{Place}
use Rattle.xd_lex.specs.declared.Kind.{Kind}
use Rattle.xd_lex.specs.LexedTokens.{is_last}
use Rattle.xd_lex.specs.Tokens.{past, tokens_from}
use Rattle.xd_lex.specs.Left.{tokens_left}

-- A text is a gap, a token, and a rest: wherever it begins, its tokens are this one, which stands
-- after the gap, and those of the rest.
pub record IsFirstToken (text : List ℕ) (kind : Kind) (token rest : List ℕ) : Type 0 where
  pub gap : List ℕ
  pub parts : text ≡ gap ++ (token ++ rest)
  pub tokens : (p : Place) → tokens_from 0 p text ≡ record { kind = kind; text = token; place = past p gap } ∷ tokens_left (is_last kind) (past (past p gap) token) rest
