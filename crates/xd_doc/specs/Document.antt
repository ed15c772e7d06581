-- What a document is: items one after the other, each a text or a labelled element around another
-- document.
use Rattle.std.specs.Prelude.{ℕ, ◌+◌, Bool, true, false, ◌&&◌, nat_eq, List, [], ◌∷◌, ◌++◌, codes, cond}
use Rattle.std.specs.Str.{byte, is_utf8}
use Rattle.xd_doc.specs.Word.{is_word}

-- a document: no item; a text and what follows it; an element and what follows it
pub data Document : Type 0 where
  empty : Document
  text : (characters : List ℕ) (rest : Document) → Document
  element : (label : List ℕ) (content : Document) (rest : Document) → Document

-- the first document, followed by the second
abbrev pub join : Document → Document → Document
join empty e = e
join (text s r) e = text s (join r e)
join (element l c r) e = element l c (join r e)

-- the number of items at all depths
abbrev pub size : Document → ℕ
size empty = 0
size (text s r) = size r + 1
size (element l c r) = size c + size r + 1

-- it isn't empty
abbrev pub has_item : Document → Bool
has_item empty = false
has_item (text s r) = true
has_item (element l c r) = true

-- each label is a word, and each text has characters that UTF-8 can spell
abbrev pub is_proper : Document → Bool
is_proper empty = true
is_proper (text s r) = is_utf8 s && is_proper r
is_proper (element l c r) = is_word l && (is_proper c && is_proper r)

-- a byte as it stands between quotes
abbrev pub escaped : ℕ → List ℕ
escaped c =
    cond (nat_eq c (byte "\"")) (codes "\\\"")
    (cond (nat_eq c (byte "\\")) (codes "\\\\")
    (cond (nat_eq c (byte "\n")) (codes "\\n")
    (cond (nat_eq c (byte "\t")) (codes "\\t")
    (c ∷ []))))

-- each byte as it stands between quotes
abbrev pub escaped_all : List ℕ → List ℕ
escaped_all [] = []
escaped_all (c ∷ cs) = escaped c ++ escaped_all cs

-- a comma, where an item follows
abbrev pub comma_before : Document → List ℕ
comma_before empty = []
comma_before (text s r) = codes ","
comma_before (element l c r) = codes ","

-- the items, with commas between them
abbrev pub items_text : Document → List ℕ
items_text empty = []
items_text (text s r) = (codes "\"" ++ escaped_all s ++ codes "\"") ++ (comma_before r ++ items_text r)
items_text (element l c r) =
    (l ++ (codes "[" ++ items_text c) ++ codes "]") ++ (comma_before r ++ items_text r)

-- the canonical text, in bytes
abbrev pub canonical_text : Document → List ℕ
canonical_text empty = codes "()"
canonical_text (text s r) = items_text (text s r)
canonical_text (element l c r) = items_text (element l c r)
