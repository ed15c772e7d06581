-- Which documents fit a type, by unfoldings: what a name means within n is what its definition
-- means within n - 1.
use Rattle.std.specs.Prelude.{◌≡◌, ℕ, suc, zero, true, ◌⊎◌, List, Option, Some, None}
use Rattle.xd_doc.specs.Document.{Document, empty, text, element, join, has_item}
use Rattle.xd_doc.specs.Classes.{LabelClass, TextClass, class_has}
use Rattle.xd_syntax.specs.Tree.{Tree, Empty, Text, Words, Name, Elem, Seq, Alt, Star, Plus, Opt, Val, Definitions, body}
use Rattle.xd_syntax.specs.Fits.{Split}

-- a part that is not empty and in P, again and again
pub data Repeats (P : Document → Type 0) : Document → Type 0 where
  no_turn : Repeats P empty
  one_turn : {d : Document} (a b : Document) → join a b ≡ d → has_item a ≡ true → P a → Repeats P b → Repeats P d

abbrev pub IsOneText : Document → Type 0
IsOneText empty = ⊥
IsOneText (text s r) = r ≡ empty
IsOneText (element l c r) = ⊥

abbrev pub IsTextIn : TextClass → Document → Type 0
IsTextIn w empty = ⊥
IsTextIn w (text s r) = (r ≡ empty) × (class_has w s ≡ true)
IsTextIn w (element l c r) = ⊥

abbrev pub IsOneElement : LabelClass → (Document → Type 0) → Document → Type 0
IsOneElement k P empty = ⊥
IsOneElement k P (text s r) = ⊥
IsOneElement k P (element l c r) = (r ≡ empty) × (class_has k l ≡ true) × P c

-- the meaning of a type, where N is that of names
abbrev pub fits_by : (List ℕ → Document → Type 0) → Tree → Document → Type 0
fits_by N Empty d = d ≡ empty
fits_by N Text d = IsOneText d
fits_by N (Words w) d = IsTextIn w d
fits_by N (Name x) d = N x d
fits_by N (Elem c T) d = IsOneElement c (fits_by N T) d
fits_by N (Seq T U) d = Split (fits_by N T) (fits_by N U) d
fits_by N (Alt T U) d = fits_by N T d ⊎ fits_by N U d
fits_by N (Star T) d = Repeats (fits_by N T) d
fits_by N (Plus T) d = Split (fits_by N T) (Repeats (fits_by N T)) d
fits_by N (Opt T) d = (d ≡ empty) ⊎ fits_by N T d
fits_by N (Val x T) d = fits_by N T d

abbrev pub fits_definition : (Tree → Document → Type 0) → Option Tree → Document → Type 0
fits_definition F None d = ⊥
fits_definition F (Some T) d = F T d

abbrev pub fits_name_within : Definitions → ℕ → List ℕ → Document → Type 0
fits_name_within E zero x d = ⊥
fits_name_within E (suc n) x d = fits_definition (fits_by (fits_name_within E n)) (body E x) d

-- the document fits the type within n unfoldings
abbrev pub FitsWithin : Definitions → ℕ → Tree → Document → Type 0
FitsWithin E n T d = fits_by (fits_name_within E n) T d
