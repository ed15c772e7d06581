-- Uses of names where everything before them can be empty, on trees without places.
use Rattle.std.specs.Prelude.{◌≡◌, ℕ, List, Some}
use Rattle.xd_doc.specs.Document.{empty}
use Rattle.xd_syntax.specs.Tree.{Tree, Name, Seq, Alt, Star, Plus, Opt, Val, Definitions, body}
use Rattle.xd_syntax.specs.Fits.{Fits}

-- the name is used outside every label, and everything before it can be empty
pub data Front (E : Definitions) : Tree → List ℕ → Type 0 where
  here : {x : List ℕ} → Front E (Name x) x
  seq_first : {T U : Tree} {x : List ℕ} → Front E T x → Front E (Seq T U) x
  seq_next : {T U : Tree} {x : List ℕ} → Fits E T empty → Front E U x → Front E (Seq T U) x
  alt_left : {T U : Tree} {x : List ℕ} → Front E T x → Front E (Alt T U) x
  alt_right : {T U : Tree} {x : List ℕ} → Front E U x → Front E (Alt T U) x
  star : {T : Tree} {x : List ℕ} → Front E T x → Front E (Star T) x
  plus : {T : Tree} {x : List ℕ} → Front E T x → Front E (Plus T) x
  opt : {T : Tree} {x : List ℕ} → Front E T x → Front E (Opt T) x
  val : {T : Tree} {x y : List ℕ} → Front E T x → Front E (Val y T) x

abbrev pub Step : Definitions → List ℕ → List ℕ → Type 0
Step E x y = (T : Tree) × (body E x ≡ Some T) × Front E T y

-- a chain of uses
pub data Path (E : Definitions) : List ℕ → List ℕ → Type 0 where
  one : {x y : List ℕ} → Step E x y → Path E x y
  more : {x y z : List ℕ} → Path E x y → Step E y z → Path E x z

-- no name leads back to itself by such uses
abbrev pub Guarded : Definitions → Type 0
Guarded E = (x : List ℕ) → Path E x x → ⊥

abbrev pub Defined : Definitions → List ℕ → Type 0
Defined E x = (T : Tree) × (body E x ≡ Some T)
