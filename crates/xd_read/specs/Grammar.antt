-- The grammar of documents, over what tokens are to it:
--
--   document = "(" ")" End | items End
--   items    = item { "," item }
--   item     = Text | Label [ "(" ")" | items ] "]"
use Rattle.std.specs.Prelude.{◌≡◌, ℕ, ◌⊎◌, List, [], ◌∷◌, ◌++◌}
use Rattle.xd_doc.specs.Document.{Document, empty, text, element}

-- What a token is to the grammar: a text stands with the text that it spells, a label without its
-- bracket.
pub data Terminal : Type 0 where
  QuotedText : (characters : List ℕ) → Terminal
  Label : (word : List ℕ) → Terminal
  ParenL : Terminal
  ParenR : Terminal
  BracketR : Terminal
  Comma : Terminal
  End : Terminal
  Other : Terminal

-- where items stand: as a whole document, as the content of an element, or after another item
pub data Context : Type 0 where
  Whole : Context
  Content : Context
  Behind : Context

-- how no items are spelled there, before the terminals that follow
abbrev pub NoItems : Context → List Terminal → List Terminal → Type 0
NoItems Whole ts rest = ts ≡ ParenL ∷ ParenR ∷ rest
NoItems Content ts rest = (ts ≡ rest) ⊎ (ts ≡ ParenL ∷ ParenR ∷ rest)
NoItems Behind ts rest = ts ≡ rest

-- an item after another has a comma before it
abbrev pub Lead : Context → List Terminal → List Terminal → Type 0
Lead Whole ts item = ts ≡ item
Lead Content ts item = ts ≡ item
Lead Behind ts item = ts ≡ Comma ∷ item

-- the terminals ts spell these items there, and then the terminals that follow
abbrev pub Items : Context → Document → List Terminal → List Terminal → Type 0
Items p empty ts rest = NoItems p ts rest
Items p (text s r) ts rest = (us : List Terminal) × Lead p ts (QuotedText s ∷ us) × Items Behind r us rest
Items p (element l c r) ts rest =
    (us : List Terminal) × (vs : List Terminal)
    × Lead p ts (Label l ∷ us) × Items Content c us (BracketR ∷ vs) × Items Behind r vs rest

-- the terminals spell the document
abbrev pub Spells : List Terminal → Document → Type 0
Spells ts d = Items Whole d ts (End ∷ [])

-- some further terminals complete them to a document
abbrev pub Begins : List Terminal → Type 0
Begins ts = (more : List Terminal) × (d : Document) × Spells (ts ++ more) d
