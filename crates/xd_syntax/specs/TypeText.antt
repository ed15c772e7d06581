-- The canonical text of a type, in bytes.
use Rattle.std.specs.Prelude.{ℕ, Bool, true, false, cond, List, [], ◌∷◌, ◌++◌, map, codes}
use Rattle.xd_doc.specs.Document.{escaped_all}
use Rattle.xd_doc.specs.Classes.{LabelClass, TextClass}
use Rattle.xd_syntax.specs.Tree.{Tree, Empty, Text, Words, Name, Elem, Seq, Alt, Star, Plus, Opt, Val, is_empty}
use Rattle.xd_syntax.specs.Words.{string_word}

-- what may stand without parentheses: any type; no alternative; no sequence besides; no postfix
-- operator besides
pub data Level : Type 0 where
  any_type_level : Level
  sequence_level : Level
  postfix_level : Level
  primary_level : Level

-- `(`, the text and `)`
abbrev pub in_parentheses : List ℕ → List ℕ
in_parentheses s = codes "(" ++ s ++ codes ")"

-- an alternative, a sequence and a postfix operator want parentheses at these levels
abbrev pub alternative_wants : Level → Bool
alternative_wants any_type_level = false
alternative_wants _ = true

-- all but an alternative and a sequence itself
abbrev pub sequence_wants : Level → Bool
sequence_wants any_type_level = false
sequence_wants sequence_level = false
sequence_wants _ = true

-- a part of a postfix operator alone
abbrev pub postfix_wants : Level → Bool
postfix_wants primary_level = true
postfix_wants _ = false

-- in parentheses where they are wanted
abbrev pub parted : Bool → List ℕ → List ℕ
parted b s = cond b (in_parentheses s) s

-- words with `|` between them
abbrev pub barred : List (List ℕ) → List ℕ
barred [] = []
barred (w ∷ []) = w
barred (w ∷ (v ∷ vs)) = w ++ codes "|" ++ barred (v ∷ vs)

-- one label or text stands alone, more stand in parentheses
abbrev pub labels_text : List (List ℕ) → List ℕ
labels_text [] = in_parentheses []
labels_text (w ∷ []) = w
labels_text (w ∷ (v ∷ vs)) = in_parentheses (barred (w ∷ (v ∷ vs)))

-- `~`, or `^` before the excepted labels
abbrev pub excepted_text : List (List ℕ) → List ℕ
excepted_text [] = codes "~"
excepted_text (w ∷ ws) = codes "^" ++ labels_text (w ∷ ws)

-- the class of an element's labels
abbrev pub class_text : LabelClass → List ℕ
class_text c = cond c.except (excepted_text c.names) (labels_text c.names)

-- a text in quotes
abbrev pub quoted_text : List ℕ → List ℕ
quoted_text s = codes "\"" ++ escaped_all s ++ codes "\""

-- one text stands alone, or after `^`; more stand after `^` in parentheses
abbrev pub words_text : TextClass → List ℕ
words_text w = cond w.except (codes "^") [] ++ labels_text (map quoted_text w.names)

-- the text at a level; nothing is written for the empty content of an element
abbrev pub text_at_level : Level → Tree → List ℕ
text_at_level v Empty = codes "()"
text_at_level v Text = string_word
text_at_level v (Words w) = words_text w
text_at_level v (Name x) = x
text_at_level v (Elem c T) =
    class_text c ++ codes "[" ++ cond (is_empty T) [] (text_at_level any_type_level T) ++ codes "]"
text_at_level v (Seq T U) =
    parted (sequence_wants v) (text_at_level postfix_level T ++ codes "," ++ text_at_level sequence_level U)
text_at_level v (Alt T U) =
    parted (alternative_wants v)
    (text_at_level sequence_level T ++ codes "|" ++ text_at_level any_type_level U)
text_at_level v (Star T) = parted (postfix_wants v) (text_at_level primary_level T ++ codes "*")
text_at_level v (Plus T) = parted (postfix_wants v) (text_at_level primary_level T ++ codes "+")
text_at_level v (Opt T) = parted (postfix_wants v) (text_at_level primary_level T ++ codes "?")
text_at_level v (Val x T) = text_at_level v T

-- the text of a type by itself
abbrev pub type_text : Tree → List ℕ
type_text T = text_at_level any_type_level T
