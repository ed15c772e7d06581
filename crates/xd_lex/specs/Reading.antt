-- The tokens of a text in the words of a grammar: what stands before what.
use Rattle.std.specs.Prelude.{◌≡◌, ◌≢◌, ◌⊎◌, ℕ, ◌+◌, ◌<◌, true, false, List, [], ◌∷◌, ◌++◌, length, slice_index, codes}
use Rattle.std.specs.Str.{byte}
use Rattle.xd_base.specs.declared.Place.{Place}
use Rattle.xd_doc.specs.Word.{is_word_part}
use Rattle.xd_lex.specs.declared.Kind.{Kind}
use Rattle.xd_lex.specs.declared.Kind.TheVariants as kinds
use Rattle.xd_lex.specs.declared.LexFault.{LexFault}
use Rattle.xd_lex.specs.declared.LexFault.TheVariants.{BadCharacter, OpenText, OpenComment}
use Rattle.xd_lex.specs.Scan.{is_blank, is_escape}
use Rattle.xd_lex.specs.Spellings.{IsSpelling, are_pieces}
use Rattle.xd_lex.specs.Tokens.{Lexeme, start, past, tokens_of}
use Rattle.xd_lex.specs.LexedTokens.{is_last}

-- no `*)` stands in these bytes
abbrev pub HasNoEnd : List ℕ → Type 0
HasNoEnd bytes = (k : ℕ) → slice_index bytes k ≡ byte "*" → slice_index bytes (k + 1) ≢ byte ")"

-- a comment: `(*`, and then the first `*)` that begins after these two bytes
abbrev pub IsComment : List ℕ → Type 0
IsComment gap = (inside : List ℕ) × HasNoEnd (inside ++ codes "*") × (gap ≡ (codes "(*" ++ inside) ++ codes "*)")

-- what may stand between tokens: a blank or a comment
pub data IsGap : List ℕ → Type 0 where
  blank : {b : ℕ} → is_blank b ≡ true → IsGap (b ∷ [])
  comment : {gap : List ℕ} → IsComment gap → IsGap gap

-- what may stand after a token: a word takes as many characters as there are, and a bracket after
-- it makes it a label; a `(` before a `*` opens a comment
abbrev pub EndsBefore : Kind → List ℕ → Type 0
EndsBefore kinds.Word rest = (is_word_part (slice_index rest 0) ≡ false) × (slice_index rest 0 ≢ byte "[")
EndsBefore kinds.ParenL rest = slice_index rest 0 ≢ byte "*"
EndsBefore kind rest = Unit {0}

-- a quoted text with a `\` before a character that makes no escape
abbrev pub HasBadEscape : List ℕ → Type 0
HasBadEscape bytes = (pieces : List ℕ) × (c : ℕ) × (rest : List ℕ) × (are_pieces false pieces ≡ true) × (is_escape c ≡ false) × (bytes ≡ (byte "\"" ∷ pieces) ++ byte "\\" ∷ c ∷ rest)

-- there is a byte, and no gap, token or quoted text begins with it
pub record BeginsNothing (bytes : List ℕ) : Type 0 where
  pub some : 0 < length bytes
  pub no_blank : is_blank (slice_index bytes 0) ≡ false
  pub no_quote : slice_index bytes 0 ≢ byte "\""
  pub no_token : (kind : Kind) (text rest : List ℕ) → IsSpelling kind text → 0 < length text → bytes ≡ text ++ rest → ⊥

-- Why a token is broken: a comment has no end; a quoted text has no end, though with more after it
-- it would be one; a quoted text has a wrong escape, or no token begins.
abbrev pub IsFault : LexFault → List ℕ → Type 0
IsFault OpenComment bytes = (inside : List ℕ) × HasNoEnd inside × (bytes ≡ codes "(*" ++ inside)
IsFault OpenText bytes = (begun more : List ℕ) × (are_pieces false (begun ++ more) ≡ true) × (bytes ≡ byte "\"" ∷ begun)
IsFault BadCharacter bytes = HasBadEscape bytes ⊎ BeginsNothing bytes

-- A text is read from this place on as these tokens: gaps and tokens stand one after the other up
-- to the end of the text or to a token that is broken, and each token has the place where it
-- begins.
pub data Reads : Place → List ℕ → List Lexeme → Type 0 where
  end : {p : Place} → Reads p [] (record { kind = kinds.End; text = []; place = p } ∷ [])
  gap : {p : Place} {gap rest : List ℕ} {ts : List Lexeme} → IsGap gap → Reads (past p gap) rest ts → Reads p (gap ++ rest) ts
  token : {p : Place} {kind : Kind} {text rest : List ℕ} {ts : List Lexeme} → IsSpelling kind text → 0 < length text → EndsBefore kind rest → Reads (past p text) rest ts → Reads p (text ++ rest) (record { kind = kind; text = text; place = p } ∷ ts)
  broken : {p : Place} {fault : LexFault} {bytes : List ℕ} → IsFault fault bytes → Reads p bytes (record { kind = kinds.Broken fault; text = []; place = p } ∷ [])

-- each text is read as its tokens
abbrev pub TokensAreRead : Type 0
TokensAreRead = (bytes : List ℕ) → Reads start bytes (tokens_of bytes)

-- the last token is `End` or `Broken`, and no other one is
abbrev pub HasOneLast : List Lexeme → Type 0
HasOneLast [] = ⊥
HasOneLast (t ∷ []) = is_last t.kind ≡ true
HasOneLast (t ∷ (u ∷ ts)) = (is_last t.kind ≡ false) × HasOneLast (u ∷ ts)

abbrev pub OneLast : Type 0
OneLast = (bytes : List ℕ) → HasOneLast (tokens_of bytes)
