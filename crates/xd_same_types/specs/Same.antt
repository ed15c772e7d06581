-- Types that the same documents fit, whatever names stand for.
use Rattle.std.specs.Prelude.{◌≡◌, ◌↔◌, ◌⊎◌, ℕ, Bool, true, ◌&&◌, ◌+◌, ◌<◌, List, [], ◌∷◌, map, length, drop, get_or}
use Rattle.std.specs.List.{AllByRecursion}
use Rattle.xd_doc.specs.Document.{Document, empty, text, element, has_item}
use Rattle.xd_syntax.specs.Words.{has_word}
use Rattle.xd_syntax.specs.Tree.{Tree, Name, Seq, Alt, Star, Plus, Opt, Val, seq_of}
use Rattle.xd_syntax.specs.Table.{Row, tree_at, IsSeqPart, IsAltPart}
use Rattle.xd_syntax.specs.declared.types.TypeId.{TypeId}
use Rattle.xd_meaning.specs.FitsWithin.{fits_by, Repeats}

-- which documents a name stands for
abbrev pub Meaning : Type 0
Meaning = List ℕ → Document → Bool

-- the document fits the type, where `N` is the meaning of names
abbrev pub FitsAs : Meaning → Tree → Document → Type 0
FitsAs N T d = fits_by (λ w e. N w e ≡ true) T d

-- each name that the type uses outside of every label is among these
abbrev pub tops_only : List (List ℕ) → Tree → Bool
tops_only known (Name x) = has_word known x
tops_only known (Seq T U) = tops_only known T && tops_only known U
tops_only known (Alt T U) = tops_only known T && tops_only known U
tops_only known (Star T) = tops_only known T
tops_only known (Plus T) = tops_only known T
tops_only known (Opt T) = tops_only known T
tops_only known (Val x T) = tops_only known T
tops_only known _ = true

abbrev pub HasTops : List (List ℕ) → Tree → Type 0
HasTops known T = tops_only known T ≡ true

-- of each of the types
abbrev pub all_tops_only : List (List ℕ) → List Tree → Bool
all_tops_only known [] = true
all_tops_only known (T ∷ Ts) = tops_only known T && all_tops_only known Ts

-- the same documents fit both types, and both use the same names outside of labels
pub record MeansSame (T U : Tree) : Type 0 where
  pub both : (N : Meaning) (d : Document) → FitsAs N T d ↔ FitsAs N U d
  pub tops : (known : List (List ℕ)) → tops_only known T ≡ tops_only known U

-- no document without an item fits the type
pub record TakesItem (T : Tree) : Type 0 where
  pub item : (N : Meaning) (d : Document) → FitsAs N T d → has_item d ≡ true

-- the document fits one of the types
abbrev pub SomeFits : Meaning → Document → List Tree → Type 0
SomeFits N d [] = ⊥
SomeFits N d (T ∷ Ts) = FitsAs N T d ⊎ SomeFits N d Ts

-- the trees of types
abbrev pub trees : List Row → List TypeId → List Tree
trees types ids = map (λ id. tree_at types id.at) ids

-- each may be a part of a sequence
abbrev pub AreSeqParts : List Row → List TypeId → Type 0
AreSeqParts types ids = AllByRecursion (λ id. IsSeqPart types id.at) ids

-- The part at the place is a star, and all that follows it is what it repeats.
pub record EndsRepeated (types : List Row) (ids : List TypeId) (k : ℕ) : Type 0 where
  pub inside : Tree
  pub within : k < length ids
  pub star : (id : TypeId) → id ≡ get_or ids k id → tree_at types id.at ≡ Star inside
  pub rest : seq_of (trees types (drop (k + 1) ids)) ≡ inside

-- each may be a part of an alternative
abbrev pub AreAltParts : List Row → List TypeId → Type 0
AreAltParts types ids = AllByRecursion (λ id. IsAltPart types id.at) ids

-- the empty document fits, whatever names stand for
pub record CanBeEmpty (T : Tree) : Type 0 where
  pub fits : (N : Meaning) → FitsAs N T empty

-- the document fits one of the types, or is empty where that is allowed
abbrev pub ChoiceFits : Meaning → Document → List Tree → Bool → Type 0
ChoiceFits N d Ts e = SomeFits N d Ts ⊎ ((e ≡ true) × (d ≡ empty))

-- what fits the first type fits the second, and what fits the second is a repetition of what fits
-- the first
pub record RepeatSame (T U : Tree) : Type 0 where
  pub once : (N : Meaning) (d : Document) → FitsAs N T d → FitsAs N U d
  pub again : (N : Meaning) (d : Document) → FitsAs N U d → Repeats (FitsAs N T) d
  pub tops : (known : List (List ℕ)) → tops_only known T ≡ tops_only known U

-- what fits the second type fits the first
pub record TakesIn (T U : Tree) : Type 0 where
  pub fits : (N : Meaning) (d : Document) → FitsAs N U d → FitsAs N T d
  pub tops : (known : List (List ℕ)) → (tops_only known T && tops_only known U) ≡ tops_only known T

-- the second list stands for what the first does, and for one type more
pub record AddsFit (old : List Tree) (T : Tree) (new : List Tree) : Type 0 where
  pub both : (N : Meaning) (d : Document) → SomeFits N d new ↔ (SomeFits N d old ⊎ FitsAs N T d)
  pub tops : (known : List (List ℕ)) → all_tops_only known new ≡ (all_tops_only known old && tops_only known T)

-- the same of a list of types more
pub record AddsFits (old more new : List Tree) : Type 0 where
  pub both : (N : Meaning) (d : Document) → SomeFits N d new ↔ (SomeFits N d old ⊎ SomeFits N d more)
  pub tops : (known : List (List ℕ)) → all_tops_only known new ≡ (all_tops_only known old && all_tops_only known more)

-- the type stands for these alternatives
pub record IsChoice (T : Tree) (Ts : List Tree) (e : Bool) : Type 0 where
  pub both : (N : Meaning) (d : Document) → FitsAs N T d ↔ ChoiceFits N d Ts e
  pub tops : (known : List (List ℕ)) → tops_only known T ≡ all_tops_only known Ts

-- the second list stands for what the first does and for what is repeated where the type is
pub record AddsStripped (old : List Tree) (T : Tree) (new : List Tree) : Type 0 where
  pub kept : (N : Meaning) (d : Document) → SomeFits N d old → SomeFits N d new
  pub once : (N : Meaning) (d : Document) → SomeFits N d new → SomeFits N d old ⊎ FitsAs N T d
  pub again : (N : Meaning) (d : Document) → FitsAs N T d → Repeats (λ e. SomeFits N e new) d
  pub tops : (known : List (List ℕ)) → all_tops_only known new ≡ (all_tops_only known old && tops_only known T)

-- what the types in the first list repeat are those of the second
pub record AreStripped (made Ts : List Tree) : Type 0 where
  pub once : (N : Meaning) (d : Document) → SomeFits N d made → SomeFits N d Ts
  pub again : (N : Meaning) (d : Document) → SomeFits N d Ts → Repeats (λ e. SomeFits N e made) d
  pub tops : (known : List (List ℕ)) → all_tops_only known made ≡ all_tops_only known Ts

-- the document is one text, of which the test holds
abbrev pub IsTextOf : (List ℕ → Bool) → Document → Type 0
IsTextOf has empty = ⊥
IsTextOf has (text s r) = (r ≡ empty) × (has s ≡ true)
IsTextOf has (element l c r) = ⊥

-- the type of the texts of which the test holds
pub record IsTextsType (has : List ℕ → Bool) (T : Tree) : Type 0 where
  pub fits : (N : Meaning) (d : Document) → FitsAs N T d ↔ IsTextOf has d
  pub tops : (known : List (List ℕ)) → tops_only known T ≡ true
