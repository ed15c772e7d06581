-- How each kind of token is spelled.
use Rattle.std.specs.Prelude.{◌≡◌, ℕ, ◌==◌, ◌&&◌, Bool, true, false, not, List, [], ◌∷◌, ◌++◌, codes}
use Rattle.std.specs.Str.{byte}
use Rattle.xd_doc.specs.Word.{is_word}
use Rattle.xd_lex.specs.declared.Kind.{Kind}
use Rattle.xd_lex.specs.declared.Kind.TheVariants as kinds
use Rattle.xd_lex.specs.Scan.{is_escape}

-- Pieces of a quoted text: a `\` and a character that makes an escape, or a character other than
-- `"` and `\`. The flag says that a `\` which begins an escape stands directly before.
abbrev pub are_pieces : Bool → List ℕ → Bool
are_pieces escaped [] = not escaped
are_pieces true (b ∷ bs) = is_escape b && are_pieces false bs
are_pieces false (b ∷ bs) = not (b == byte "\"") && are_pieces (b == byte "\\") bs

-- this text spells a token of this kind
abbrev pub IsSpelling : Kind → List ℕ → Type 0
IsSpelling kinds.Word t = is_word t ≡ true
IsSpelling kinds.Label t = (word : List ℕ) × (is_word word ≡ true) × (t ≡ word ++ codes "[")
IsSpelling kinds.Text t = (pieces : List ℕ) × (are_pieces false pieces ≡ true) × (t ≡ byte "\"" ∷ pieces ++ codes "\"")
IsSpelling kinds.ParenL t = t ≡ codes "("
IsSpelling kinds.ParenR t = t ≡ codes ")"
IsSpelling kinds.BracketL t = t ≡ codes "["
IsSpelling kinds.BracketR t = t ≡ codes "]"
IsSpelling kinds.Comma t = t ≡ codes ","
IsSpelling kinds.Bar t = t ≡ codes "|"
IsSpelling kinds.Star t = t ≡ codes "*"
IsSpelling kinds.Plus t = t ≡ codes "+"
IsSpelling kinds.Query t = t ≡ codes "?"
IsSpelling kinds.Equals t = t ≡ codes "="
IsSpelling kinds.Colon t = t ≡ codes ":"
IsSpelling kinds.Tilde t = t ≡ codes "~"
IsSpelling kinds.Caret t = t ≡ codes "^"
IsSpelling kinds.Arrow t = t ≡ codes "->"
IsSpelling kinds.End t = t ≡ []
IsSpelling (kinds.Broken fault) t = t ≡ []
