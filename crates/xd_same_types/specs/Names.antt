-- A state as definitions of types.
use Rattle.std.specs.Prelude.{◌≡◌, ◌↔◌, ℕ, true, List, [], Some}
use Rattle.xd_doc.specs.Document.{Document}
use Rattle.xd_syntax.specs.Fits.{Fits}
use Rattle.xd_same_types.specs.Same.{Meaning, FitsAs, tops_only}
use Rattle.xd_syntax.specs.Words.{has_word}
use Rattle.xd_syntax.specs.Tree.{Tree, Definitions, body}

-- what each name means is what its definition does
pub record IsMeaning (E : Definitions) (N : Meaning) : Type 0 where
  pub least : (x : List ℕ) (T : Tree) (d : Document) → body E x ≡ Some T → FitsAs N T d → N x d ≡ true
  pub most : (x : List ℕ) (d : Document) → N x d ≡ true → (T : Tree) × (body E x ≡ Some T) × FitsAs N T d

-- each definition uses no name outside of labels but these
abbrev pub AreGuarded : Definitions → List (List ℕ) → Type 0
AreGuarded E known = (x : List ℕ) (T : Tree) → body E x ≡ Some T → tops_only known T ≡ true

-- of these names each definition uses no name outside of labels
abbrev pub AreClosed : Definitions → List (List ℕ) → Type 0
AreClosed E known = (x : List ℕ) → has_word known x ≡ true → (T : Tree) → body E x ≡ Some T → tops_only [] T ≡ true

-- Where each name means what its definition does, and the definitions use but few names outside of
-- labels, the same documents fit a type by definitions and by meanings.
abbrev pub NamesSettle : Type 0
NamesSettle =
    (E : Definitions) (N : Meaning) (known : List (List ℕ)) → IsMeaning E N → AreGuarded E known → AreClosed E known → (T : Tree) (d : Document) → Fits E T d ↔ FitsAs N T d
