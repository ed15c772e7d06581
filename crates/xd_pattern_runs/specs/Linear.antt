-- Patterns in which each way binds each variable once, and what the bindings of a way give a
-- variable.
use Rattle.std.specs.Prelude.{◌≡◌, ℕ, true, false, cond, List, [], ◌∷◌, Some}
use Rattle.std.specs.Str.{bytes_eq}
use Rattle.xd_doc.specs.Document.{Document, empty, join}
use Rattle.xd_syntax.specs.Words.{has_word}
use Rattle.xd_syntax.specs.Tree.{Tree, Empty, Text, Words, Name, Elem, Seq, Alt, Star, Plus, Opt, Val, Definitions, body, occurrences}

-- no definition binds a variable
abbrev pub BindNothing : Definitions → Type 0
BindNothing E = (x : List ℕ) (T : Tree) → body E x ≡ Some T → occurrences T ≡ []

-- no variable's binder stands within a binder of the same variable
abbrev pub IsApart : Tree → Type 0
IsApart Empty = Unit {0}
IsApart Text = Unit {0}
IsApart (Words w) = Unit {0}
IsApart (Name x) = Unit {0}
IsApart (Elem c T) = IsApart T
IsApart (Seq T U) = IsApart T × IsApart U
IsApart (Alt T U) = IsApart T × IsApart U
IsApart (Star T) = IsApart T
IsApart (Plus T) = IsApart T
IsApart (Opt T) = IsApart T
IsApart (Val x T) = (has_word (occurrences T) x ≡ false) × IsApart T

-- no word is in both lists
abbrev pub AreDisjoint : List (List ℕ) → List (List ℕ) → Type 0
AreDisjoint xs ys = (x : List ℕ) → has_word xs x ≡ true → has_word ys x ≡ false

abbrev pub SameWords : List (List ℕ) → List (List ℕ) → Type 0
SameWords xs ys = (x : List ℕ) → has_word xs x ≡ has_word ys x

-- each way of the pattern binds each of its variables, and binds it once
abbrev pub IsLinear : Tree → Type 0
IsLinear Empty = Unit {0}
IsLinear Text = Unit {0}
IsLinear (Words w) = Unit {0}
IsLinear (Name x) = Unit {0}
IsLinear (Elem c T) = IsLinear T
IsLinear (Seq T U) = IsLinear T × IsLinear U × AreDisjoint (occurrences T) (occurrences U)
IsLinear (Alt T U) = IsLinear T × IsLinear U × SameWords (occurrences T) (occurrences U)
IsLinear (Star T) = occurrences T ≡ []
IsLinear (Plus T) = occurrences T ≡ []
IsLinear (Opt T) = occurrences T ≡ []
IsLinear (Val x T) = (has_word (occurrences T) x ≡ false) × IsLinear T

-- the documents that the bindings give the variable, in order
abbrev pub given : List ℕ → List (List ℕ × Document) → List Document
given x [] = []
given x (b ∷ bs) = cond (bytes_eq b.0 x) (b.1 ∷ given x bs) (given x bs)

abbrev pub joined : List Document → Document
joined [] = empty
joined (d ∷ ds) = join d (joined ds)
