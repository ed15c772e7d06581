-- Types that names are to stand for, and the program that defines them.
use Rattle.std.specs.Prelude.{◌≡◌, ◌↔◌, ℕ, ◌<◌, Bool, true, List, [], ◌∷◌, map, length, get_or}
use Rattle.std.specs.List.{AllByRecursion}
use Rattle.xd_doc.specs.Document.{Document, is_proper}
use Rattle.xd_syntax.specs.Words.{any_word}
use Rattle.xd_syntax.specs.Table.{Row}
use Rattle.xd_syntax.specs.Types.{BelongsTo, tree}
use Rattle.xd_syntax.specs.PlacedTable.{the_start}
use Rattle.xd_syntax.specs.Program.{ProgramTree}
use Rattle.xd_syntax.specs.Kept.{type_definition}
use Rattle.xd_syntax.specs.declared.types.TypeId.{TypeId}
use Rattle.xd_syntax.specs.declared.types.TypeDef.{TypeDef}
use Rattle.xd_same_types.specs.Grown.{NamesAmong}
use Rattle.xd_same_types.specs.Same.{Meaning, FitsAs, tops_only}
use Rattle.xd_shown.specs.Shown.{AreNamedFrom, IsShown}

-- A type for each name. Outside of labels it uses no name but `Any`, and the whole table uses no
-- name but these and `Any`.
pub record AreBodies (types : List Row) (words : List (List ℕ)) (bodies : List TypeId) : Type 0 where
  pub some : 0 < length words
  pub each : length bodies ≡ length words
  pub belong : AllByRecursion (BelongsTo types) bodies
  pub guarded : AllByRecursion (λ id. tops_only (any_word ∷ []) (tree types id) ≡ true) bodies
  pub known : NamesAmong (any_word ∷ words) types

-- The meanings of these names are those of their types, and `Any` means every document. What other
-- names mean is of no account.
pub record AreMeant (N : Meaning) (types : List Row) (words : List (List ℕ)) (bodies : List TypeId) : Type 0 where
  pub any : (d : Document) → N any_word d ≡ true
  pub each : (k : ℕ) (id : TypeId) → k < length words → id ≡ get_or bodies k id → (d : Document) → (N (get_or words k []) d ≡ true) ↔ FitsAs N (tree types id) d

-- the test passes a proper document
abbrev pub HasProper : (Document → Bool) → Type 0
HasProper D = (d : Document) × (is_proper d ≡ true) × (D d ≡ true)

-- The program shows what the first name means, whatever meanings of names are those of their types,
-- unless it means nothing.
abbrev pub ShowsMeanings : List Row → List (List ℕ) → List TypeId → ProgramTree → List ℕ → Type 0
ShowsMeanings types words bodies P start =
    (taken : List (List ℕ)) (N : Meaning) → AreNamedFrom taken 1 words → AreMeant N types words bodies → HasProper (N start) → IsShown (λ d. N start d ≡ true) taken P start

-- a definition for each name, in order
abbrev pub definitions_of : List (List ℕ) → List TypeId → List TypeDef
definitions_of [] bodies = []
definitions_of (w ∷ words) [] = []
definitions_of (w ∷ words) (b ∷ bodies) = record { name = w; place = the_start; body = b } ∷ definitions_of words bodies

-- the program of these definitions alone
abbrev pub defining : List Row → List (List ℕ) → List TypeId → ProgramTree
defining types words bodies = record { types = map (type_definition types) (definitions_of words bodies); functions = [] }
