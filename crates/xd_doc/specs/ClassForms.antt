-- How classes are kept: names in byte order, and what a class shares with another.
use Rattle.std.specs.Prelude.{◌≡◌, ◌<◌, ◌⊎◌, ℕ, Bool, true, false, not, cond, ◌&&◌, List, length, Option, Some, None}
use Rattle.std.specs.Ordering.{nat_cmp}
use Rattle.std.specs.declared.cmp.Ordering.{Ordering}
use Rattle.std.specs.Cmp.Lexicographic.{slice_cmp}
use Rattle.std.specs.List.Sorted.{IsStrictlySortedBy}
use Rattle.std.specs.List.{AllByRecursion}
use Rattle.std.specs.Str.{is_utf8}
use Rattle.xd_doc.specs.Word.{is_word}
use Rattle.xd_doc.specs.Classes.{LabelClass, NameClass, TextClass, class_has, is_named}

-- the label is among these
abbrev pub names_label : List (List ℕ) → List ℕ → Bool
names_label = is_named

-- the names of a class: each is a name, they stand in order without repeats, and something is in
-- the class
pub record AreClassNames {N : Type 0} (is_name : N → Bool) (order : N → N → Ordering) (names : List N) (except : Bool) : Type 0 where
  pub words : AllByRecursion (λ n. is_name n ≡ true) names
  pub sorted : IsStrictlySortedBy order names
  pub filled : (0 < length names) ⊎ (except ≡ true)

-- words in byte order
abbrev pub IsClass : LabelClass → Type 0
IsClass c = AreClassNames is_word (slice_cmp nat_cmp) c.names c.except

-- texts in byte order
abbrev pub IsTextClass : TextClass → Type 0
IsTextClass c = AreClassNames is_utf8 (slice_cmp nat_cmp) c.names c.except

-- it is in the class, or outside of it
abbrev pub chosen : Bool → NameClass → List ℕ → Bool
chosen inside c x = cond inside (class_has c x) (not (class_has c x))

-- what the first class has that is in the second, or outside of it; no class where that is nothing
abbrev pub IsPart : Bool → NameClass → NameClass → Option NameClass → Type 0
IsPart inside c e None = (x : List ℕ) → (class_has c x && chosen inside e x) ≡ false
IsPart inside c e (Some part) = (x : List ℕ) → class_has part x ≡ (class_has c x && chosen inside e x)

-- a name that the class has
pub record HasName (is_name : List ℕ → Bool) (c : NameClass) : Type 0 where
  pub name : List ℕ
  pub proper : is_name name ≡ true
  pub has : class_has c name ≡ true

-- a label of the class
abbrev pub HasLabel : LabelClass → Type 0
HasLabel = HasName is_word

-- a text of the class
abbrev pub HasText : TextClass → Type 0
HasText = HasName is_utf8
