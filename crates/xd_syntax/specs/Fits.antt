-- Which documents fit a type (Hosoya, Vouillon and Pierce, TOPLAS 2005: the meaning of types).
use Rattle.std.specs.Prelude.{◌≡◌, ℕ, Bool, true, false, ◌||◌, ◌&&◌, List, Some}
use Rattle.xd_doc.specs.Document.{Document, empty, text, element, join, has_item}
use Rattle.xd_doc.specs.Classes.{LabelClass, TextClass, class_has}
use Rattle.xd_syntax.specs.Tree.{Tree, Empty, Text, Words, Name, Elem, Seq, Alt, Star, Plus, Opt, Val, Definitions, body}

-- the document fits the type, where `E` says what names stand for
pub data Fits (E : Definitions) : Tree → Document → Type 0 where
  fits_empty : Fits E Empty empty
  fits_text : {s : List ℕ} → Fits E Text (text s empty)
  fits_words : {w : TextClass} {s : List ℕ} → class_has w s ≡ true → Fits E (Words w) (text s empty)
  fits_elem : {c : LabelClass} {T : Tree} {l : List ℕ} {d : Document} →
      class_has c l ≡ true → Fits E T d → Fits E (Elem c T) (element l d empty)
  fits_seq : {T U : Tree} {d : Document} (a b : Document) →
      join a b ≡ d → Fits E T a → Fits E U b → Fits E (Seq T U) d
  fits_left : {T U : Tree} {d : Document} → Fits E T d → Fits E (Alt T U) d
  fits_right : {T U : Tree} {d : Document} → Fits E U d → Fits E (Alt T U) d
  fits_no_turn : {T : Tree} → Fits E (Star T) empty
  fits_turn : {T : Tree} {d : Document} (a b : Document) →
      join a b ≡ d → has_item a ≡ true → Fits E T a → Fits E (Star T) b → Fits E (Star T) d
  fits_plus : {T : Tree} {d : Document} (a b : Document) →
      join a b ≡ d → Fits E T a → Fits E (Star T) b → Fits E (Plus T) d
  fits_absent : {T : Tree} → Fits E (Opt T) empty
  fits_present : {T : Tree} {d : Document} → Fits E T d → Fits E (Opt T) d
  fits_name : {x : List ℕ} {T : Tree} {d : Document} → body E x ≡ Some T → Fits E T d → Fits E (Name x) d
  fits_val : {x : List ℕ} {T : Tree} {d : Document} → Fits E T d → Fits E (Val x T) d

-- a document of two parts
abbrev pub Split : (Document → Type 0) → (Document → Type 0) → Document → Type 0
Split P Q d = (a : Document) × (b : Document) × (join a b ≡ d) × P a × Q b

-- whether the empty document fits, where N answers for names
abbrev pub empty_by : (List ℕ → Bool) → Tree → Bool
empty_by N Empty = true
empty_by N (Name x) = N x
empty_by N (Seq T U) = empty_by N T && empty_by N U
empty_by N (Alt T U) = empty_by N T || empty_by N U
empty_by N (Star T) = true
empty_by N (Plus T) = empty_by N T
empty_by N (Opt T) = true
empty_by N (Val x T) = empty_by N T
empty_by N _ = false
