-- Where bytes stop being the beginning of a document of a set, as of those that a state accepts.
--
-- Three examples, each for the set of the one document `a[b[],c[]]`:
--
--   a[b[]]        stops at the second `]`, outside: the tokens up to there begin a document, though
--                 none of the set
--   a[b[],c[]],,  stops at the first of these two commas, outside: a document may go on with it
--   a[b[],)       stops at the `)`, malformed: no document goes on with it
--
-- The place is that of the token. Where bytes aren't UTF-8 it is the place after their longest
-- front that is.
use Rattle.std.specs.Prelude.{◌≡◌, ◌⊎◌, ℕ, ◌-◌, ◌^◌, ◌==◌, min, Bool, true, false, cond, List, [], ◌∷◌, ◌++◌, length, take, map}
use Rattle.std.specs.Str.Lossy.{utf8_valid_len}
use Rattle.xd_base.specs.declared.Place.{Place}
use Rattle.xd_doc.specs.Document.{Document}
use Rattle.xd_lex.specs.declared.Kind.{Kind}
use Rattle.xd_lex.specs.declared.Kind.TheVariants as kinds
use Rattle.xd_lex.specs.declared.LexFault.TheVariants.{BadCharacter, OpenText, OpenComment}
use Rattle.xd_lex.specs.Tokens.{Lexeme, past, start, tokens_from}
use Rattle.xd_read.specs.Grammar.{Terminal, Spells, Begins}
use Rattle.xd_read.specs.Reading.{BytesSpell, terminals_of}

-- the longest front of the bytes that is UTF-8
abbrev pub text_front : List ℕ → List ℕ
text_front bytes = take (utf8_valid_len bytes) bytes

-- the end of a text, or what isn't closed before it
abbrev pub is_open : Kind → Bool
is_open kinds.End = true
is_open (kinds.Broken OpenText) = true
is_open (kinds.Broken OpenComment) = true
is_open k = false

-- a token that is open is broken at this place
abbrev pub cut_off : Place → Lexeme → Lexeme
cut_off p x = cond (is_open x.kind) (record { kind = kinds.Broken BadCharacter; text = []; place = p }) x

-- the tokens, unless they are whole with what is open broken at this place
abbrev pub cut_off_unless : Bool → Place → List Lexeme → List Lexeme
cut_off_unless whole p xs = cond whole xs (map (cut_off p) xs)

-- The tokens of bytes that begin at a place: those of the longest front that is UTF-8. Where it
-- isn't all, the one that is open is broken at the place after it.
abbrev pub tokens_at : Place → List ℕ → List Lexeme
tokens_at p bytes =
    let front = text_front bytes in
    cut_off_unless (utf8_valid_len bytes == length bytes) (past p front) (tokens_from 0 p front)

-- the tokens of bytes from the first place on
abbrev pub stream_tokens : List ℕ → List Lexeme
stream_tokens bytes = tokens_at start bytes

-- further terminals complete these to a document of the set
pub record BeginsOneOf (In : Document → Type 0) (ts : List Terminal) : Type 0 where
  pub more : List Terminal
  pub document : Document
  pub spells : Spells (ts ++ more) document
  pub within : In document

-- the place as it is told: a line and a column are at most 2^64 - 1
abbrev pub told : Place → Place
told p = record { line = min p.line (2 ^ 64 - 1); column = min p.column (2 ^ 64 - 1) }

-- the first token such that the tokens up to it begin no document of the set, and its place as it
-- is told
pub record IsFirstStop (In : Document → Type 0) (tokens before : List Lexeme)
    (x : Lexeme) (place : Place) : Type 0 where
  pub after : List Lexeme
  pub split : tokens ≡ before ++ x ∷ after
  pub goes : (before ≡ []) ⊎ BeginsOneOf In (terminals_of before)
  pub stops : ¬ (BeginsOneOf In (terminals_of (before ++ x ∷ [])))
  pub here : place ≡ told x.place

-- the bytes stop here, and the tokens up to there begin no document at all
pub record StopsMalformed (In : Document → Type 0) (bytes : List ℕ) (place : Place) : Type 0 where
  pub before : List Lexeme
  pub stop : Lexeme
  pub first : IsFirstStop In (stream_tokens bytes) before stop place
  pub none : ¬ (Begins (terminals_of (before ++ stop ∷ [])))

-- the bytes stop here, though the tokens up to there begin a document
pub record StopsOutside (In : Document → Type 0) (bytes : List ℕ) (place : Place) : Type 0 where
  pub before : List Lexeme
  pub stop : Lexeme
  pub first : IsFirstStop In (stream_tokens bytes) before stop place
  pub some : Begins (terminals_of (before ++ stop ∷ []))

-- the bytes spell a document of the set
pub record SpellsOneOf (In : Document → Type 0) (bytes : List ℕ) : Type 0 where
  pub document : Document
  pub spells : BytesSpell bytes document
  pub within : In document
