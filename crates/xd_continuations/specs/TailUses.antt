-- Uses of names outside every label, on trees without places.
use Rattle.std.specs.Prelude.{◌≡◌, ℕ, ◌++◌, List, [], ◌∷◌, Some}
use Rattle.xd_doc.specs.Members.{IsOneOf}
use Rattle.xd_syntax.specs.Tree.{Tree, Empty, Text, Words, Name, Elem, Seq, Alt, Star, Plus, Opt, Val, Definitions, body}

-- the names that are used outside every label
abbrev pub top_names : Tree → List (List ℕ)
top_names Empty = []
top_names Text = []
top_names (Words w) = []
top_names (Name x) = x ∷ []
top_names (Elem c T) = []
top_names (Seq T U) = top_names T ++ top_names U
top_names (Alt T U) = top_names T ++ top_names U
top_names (Star T) = top_names T
top_names (Plus T) = top_names T
top_names (Opt T) = top_names T
top_names (Val x T) = top_names T

-- those of them that something follows or a repetition is around
abbrev pub inner_names : Tree → List (List ℕ)
inner_names Empty = []
inner_names Text = []
inner_names (Words w) = []
inner_names (Name x) = []
inner_names (Elem c T) = []
inner_names (Seq T U) = top_names T ++ inner_names U
inner_names (Alt T U) = inner_names T ++ inner_names U
inner_names (Star T) = top_names T
inner_names (Plus T) = top_names T
inner_names (Opt T) = inner_names T
inner_names (Val x T) = inner_names T

-- the second name is used outside every label of the definition of the first
abbrev pub UsesTop : Definitions → List ℕ → List ℕ → Type 0
UsesTop E x y = (T : Tree) × (body E x ≡ Some T) × IsOneOf y (top_names T)

-- a chain of such uses leads from the first name to the second, or they are the same
pub data LeadsTo (E : Definitions) : List ℕ → List ℕ → Type 0 where
  at_once : {x : List ℕ} → LeadsTo E x x
  by_use : {x y z : List ℕ} → UsesTop E x y → LeadsTo E y z → LeadsTo E x z

-- no use outside tail position leads back to the definition that it stands in
abbrev pub RecursOnlyInTail : Definitions → Type 0
RecursOnlyInTail E = (x y : List ℕ) (T : Tree) → body E x ≡ Some T → IsOneOf y (inner_names T) → LeadsTo E y x → ⊥
