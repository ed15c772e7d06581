-- Types and patterns as trees, places aside.
use Rattle.std.specs.Prelude.{ℕ, ◌+◌, Bool, true, false, cond, ◌&&◌, List, [], ◌∷◌, ◌++◌, Option, Some, None}
use Rattle.std.specs.Str.{bytes_eq}
use Rattle.xd_doc.specs.Classes.{LabelClass, TextClass}
use Rattle.xd_syntax.specs.Words.{any_word, has_word}

-- A type or a pattern. A sequence or an alternative of more than two parts leans to the right.
-- `Text` is the type `String`, `Words` a class of texts; `Val` binds a variable, and stands in
-- patterns alone.
pub data Tree : Type 0 where
  Empty : Tree
  Text : Tree
  Words : (texts : TextClass) → Tree
  Name : (word : List ℕ) → Tree
  Elem : (class : LabelClass) (content : Tree) → Tree
  Seq : (first : Tree) (rest : Tree) → Tree
  Alt : (first : Tree) (rest : Tree) → Tree
  Star : (part : Tree) → Tree
  Plus : (part : Tree) → Tree
  Opt : (part : Tree) → Tree
  Val : (variable : List ℕ) (part : Tree) → Tree

-- names and what they stand for; the first of a name counts
abbrev pub Definitions : Type 0
Definitions = List (List ℕ × Tree)

-- what the first definition of a name says
abbrev pub body : Definitions → List ℕ → Option Tree
body [] x = None
body (p ∷ ps) x = cond (bytes_eq p.0 x) (Some p.1) (body ps x)

-- `~`
abbrev pub all_labels : LabelClass
all_labels = record { names = []; except = true }

-- `(~[Any]|String)*`
abbrev pub any_type : Tree
any_type = Star (Alt (Elem all_labels (Name any_word)) Text)

-- definitions together with that of `Any`
abbrev pub environment : Definitions → Definitions
environment E = (any_word, any_type) ∷ E

-- the variables of a pattern, one for each occurrence, in order; what a name stands for has none
abbrev pub occurrences : Tree → List (List ℕ)
occurrences (Elem c T) = occurrences T
occurrences (Seq T U) = occurrences T ++ occurrences U
occurrences (Alt T U) = occurrences T ++ occurrences U
occurrences (Star T) = occurrences T
occurrences (Plus T) = occurrences T
occurrences (Opt T) = occurrences T
occurrences (Val x T) = x ∷ occurrences T
occurrences _ = []

-- each name that the type uses is among these
abbrev pub uses_only : List (List ℕ) → Tree → Bool
uses_only known (Name x) = has_word known x
uses_only known (Elem c T) = uses_only known T
uses_only known (Seq T U) = uses_only known T && uses_only known U
uses_only known (Alt T U) = uses_only known T && uses_only known U
uses_only known (Star T) = uses_only known T
uses_only known (Plus T) = uses_only known T
uses_only known (Opt T) = uses_only known T
uses_only known (Val x T) = uses_only known T
uses_only known _ = true

-- the sequence of a list of parts
abbrev pub seq_of : List Tree → Tree
seq_of [] = Empty
seq_of (t ∷ []) = t
seq_of (t ∷ (u ∷ us)) = Seq t (seq_of (u ∷ us))

-- the type of the empty document alone
abbrev pub is_empty : Tree → Bool
is_empty Empty = true
is_empty _ = false
