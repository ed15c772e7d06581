-- What bytes spell, and where they are malformed.
use Rattle.std.specs.Prelude.{◌≡◌, ◌⊎◌, ℕ, ◌-◌, List, [], ◌∷◌, ◌++◌, length, take, map, IsUtf8}
use Rattle.xd_base.specs.declared.Place.{Place}
use Rattle.xd_doc.specs.Document.{Document}
use Rattle.xd_lex.specs.declared.Kind.{Kind}
use Rattle.xd_lex.specs.declared.Kind.TheVariants as kinds
use Rattle.xd_lex.specs.Tokens.{Lexeme, tokens_of, IsNotUtf8At}
use Rattle.xd_lex.specs.Spelled.{unescaped}
use Rattle.xd_read.specs.Grammar.{Terminal, QuotedText, Label, ParenL, ParenR, BracketR, Comma, End, Other, Spells, Begins}

-- the word of a label, which ends with its bracket
abbrev pub word_of : List ℕ → List ℕ
word_of label = take (length label - 1) label

-- what a token is to the grammar of documents
abbrev pub terminal : Kind → List ℕ → Terminal
terminal kinds.Text t = QuotedText (unescaped t)
terminal kinds.Label t = Label (word_of t)
terminal kinds.ParenL t = ParenL
terminal kinds.ParenR t = ParenR
terminal kinds.BracketR t = BracketR
terminal kinds.Comma t = Comma
terminal kinds.End t = End
terminal k t = Other

-- the same of a token with its place
abbrev pub terminal_of : Lexeme → Terminal
terminal_of x = terminal x.kind x.text

-- what tokens are to the grammar of documents
abbrev pub terminals_of : List Lexeme → List Terminal
terminals_of xs = map terminal_of xs

-- the bytes spell the document
pub record BytesSpell (bytes : List ℕ) (d : Document) : Type 0 where
  pub utf8 : IsUtf8 bytes
  pub spells : Spells (terminals_of (tokens_of bytes)) d

-- the tokens before this one begin a document, and with it they don't
pub record IsFirstFault (tokens : List Lexeme) (place : Place) : Type 0 where
  pub before : List Lexeme
  pub fault : Lexeme
  pub after : List Lexeme
  pub split : tokens ≡ before ++ fault ∷ after
  pub goes : Begins (terminals_of before)
  pub stops : ¬ (Begins (terminals_of (before ++ fault ∷ [])))
  pub here : place ≡ fault.place

-- where the bytes are malformed: at the first that aren't UTF-8, else at the first token that no
-- document continues
abbrev pub IsMalformedAt : List ℕ → Place → Type 0
IsMalformedAt bytes place = IsNotUtf8At bytes place ⊎ (IsUtf8 bytes × IsFirstFault (tokens_of bytes) place)

-- the bytes spell no document
abbrev pub SpellsNothing : List ℕ → Type 0
SpellsNothing bytes = (d : Document) → ¬ (BytesSpell bytes d)
