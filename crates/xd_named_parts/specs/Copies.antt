-- Types copied to another table, with names in the places of some.
use Rattle.std.specs.Prelude.{◌≡◌, ◌↔◌, ◌<◌, ◌&&◌, ◌==◌, ℕ, Bool, true, List, [], ◌∷◌, length, get_or, Option, Some, None}
use Rattle.std.specs.List.{AllByRecursion}
use Rattle.xd_doc.specs.Classes.{LabelClass, TextClass}
use Rattle.xd_doc.specs.Document.{Document, empty, text, element, has_item}
use Rattle.xd_syntax.specs.Words.{any_word}
use Rattle.xd_syntax.specs.Tree.{Tree}
use Rattle.xd_syntax.specs.Table.{Form, Row, IsWordsNode, words_form, form_tree, tree_at}
use Rattle.xd_syntax.specs.Types.{BelongsTo}
use Rattle.xd_syntax.specs.declared.types.TypeId.{TypeId}
use Rattle.xd_same_types.specs.Same.{Meaning, FitsAs, HasTops}
use Rattle.xd_shown.specs.Bodies.{AreMeant}

-- The same documents fit both types, where names mean what `N` says in the first one, and what `M`
-- says in the second.
abbrev pub Alike : Meaning → Meaning → Tree → Tree → Type 0
Alike N M T U = (d : Document) → FitsAs N T d ↔ FitsAs M U d

-- `Any` stands for every document
abbrev pub MeansEach : Meaning → Type 0
MeansEach N = (d : Document) → N any_word d ≡ true

-- every document fits the type, where `Any` stands for each
pub record TakesAll (T : Tree) : Type 0 where
  pub fits : (M : Meaning) → MeansEach M → (d : Document) → FitsAs M T d

-- so does every document that has an item
pub record TakesMore (T : Tree) : Type 0 where
  pub fits : (M : Meaning) → MeansEach M → (d : Document) → has_item d ≡ true → FitsAs M T d

-- each text fits the type
pub record TakesTexts (T : Tree) : Type 0 where
  pub fits : (M : Meaning) (s : List ℕ) → FitsAs M T (text s empty)

-- each element fits the type, where `Any` stands for every document
pub record TakesElements (T : Tree) : Type 0 where
  pub fits : (M : Meaning) → MeansEach M → (l : List ℕ) (c : Document) → FitsAs M T (element l c empty)

-- the class has each label
abbrev pub has_each : LabelClass → Bool
has_each k = k.except && (length k.names == 0)

-- the copy of the node with this number, if it has one
abbrev pub copy_in : List (Option TypeId) → ℕ → Option TypeId
copy_in table i = get_or table i None

-- each copy is like its node
abbrev pub AreCopies : Meaning → Meaning → List Row → List Row → List (Option TypeId) → Type 0
AreCopies N M old new table = (i : ℕ) (id : TypeId) → copy_in table i ≡ Some id → Alike N M (tree_at old i) (tree_at new id.at)

abbrev pub CopiesBelong : List Row → List (Option TypeId) → Type 0
CopiesBelong new table = (i : ℕ) (id : TypeId) → copy_in table i ≡ Some id → id.at < length new

-- outside of labels no copy uses a name but `Any`
abbrev pub AreBare : List Row → List (Option TypeId) → Type 0
AreBare new table = (i : ℕ) (id : TypeId) → copy_in table i ≡ Some id → HasTops (any_word ∷ []) (tree_at new id.at)

-- the second types are the copies of the first, in order
abbrev pub AllCopied : List (Option TypeId) → List TypeId → List TypeId → Type 0
AllCopied table [] [] = Unit {0}
AllCopied table [] (q ∷ qs) = ⊥
AllCopied table (p ∷ ps) [] = ⊥
AllCopied table (p ∷ ps) (q ∷ qs) = (copy_in table p.at ≡ Some q) × AllCopied table ps qs

-- if these are texts, a node may have them
abbrev pub HasWords : Form → Type 0
HasWords f = (w : TextClass) → f ≡ words_form w → IsWordsNode w

-- A type for a form, where some copies stand for the types that it has outside of labels, and
-- others for those under labels.
pub record IsFormCopy (form : Form) (tops inner : List (Option TypeId)) (mid new : List Row) (id : TypeId) : Type 0 where
  pub same : (old : List Row) (N M : Meaning) → MeansEach M → AreCopies N M old mid tops → AreCopies N M old mid inner → Alike N M (form_tree (tree_at old) form) (tree_at new id.at)
  pub bare : AreBare mid tops → HasTops (any_word ∷ []) (tree_at new id.at)
  pub belongs : BelongsTo new id

-- A type for a node of the definitions.
pub record IsNodeCopy (old : List Row) (words : List (List ℕ)) (bodies : List TypeId) (i : ℕ) (tops inner : List (Option TypeId)) (mid new : List Row) (id : TypeId) : Type 0 where
  pub same : (N M : Meaning) → AreMeant N old words bodies → MeansEach M → AreCopies N M old mid tops → AreCopies N M old mid inner → Alike N M (tree_at old i) (tree_at new id.at)
  pub belongs : BelongsTo new id

-- More is copied. What was right is right, where names mean what `P` says.
pub record GrowsCopies (P : Meaning → Meaning → Type 0) (old mid : List Row) (before : List (Option TypeId)) (new : List Row) (after : List (Option TypeId)) : Type 0 where
  pub count : length after ≡ length before
  pub right : (N M : Meaning) → P N M → AreCopies N M old mid before → AreCopies N M old new after
  pub belong : CopiesBelong mid before → CopiesBelong new after

-- what names mean in the definitions, and that `Any` stands for every document in the copies
abbrev pub AreGiven : List Row → List (List ℕ) → List TypeId → Meaning → Meaning → Type 0
AreGiven old words bodies N M = AreMeant N old words bodies × MeansEach M

-- the same, and some nodes have right copies
abbrev pub AreGivenWith : List Row → List (List ℕ) → List TypeId → List Row → List (Option TypeId) → Meaning → Meaning → Type 0
AreGivenWith old words bodies new inner N M = AreGiven old words bodies N M × AreCopies N M old new inner

-- the name stands for the node of this number
abbrev pub StandsForNode : List Row → List ℕ → ℕ → Meaning → Meaning → Type 0
StandsForNode old w i N M = (d : Document) → (M w d ≡ true) ↔ FitsAs N (tree_at old i) d

-- each name stands for the node at its place
abbrev pub StandForNodes : List Row → List (List ℕ) → List TypeId → Meaning → Meaning → Type 0
StandForNodes old names named N M = (k : ℕ) (w : List ℕ) (id : TypeId) → k < length named → w ≡ get_or names k w → id ≡ get_or named k id → StandsForNode old w id.at N M

-- the copy of what a name means in the definitions
pub record IsMeantCopy (words : List (List ℕ)) (bodies : List TypeId) (inner : List (Option TypeId)) (w : List ℕ) (id : TypeId) : Type 0 where
  pub place : ℕ
  pub within : place < length words
  pub there : place < length bodies
  pub name : get_or words place w ≡ w
  pub copy : (b : TypeId) → b ≡ get_or bodies place b → copy_in inner b.at ≡ Some id

-- so many nodes, none of which has a copy
pub record AreNoCopies (n : ℕ) (table : List (Option TypeId)) : Type 0 where
  pub count : length table ≡ n
  pub none : AllByRecursion (λ o. o ≡ None) table
