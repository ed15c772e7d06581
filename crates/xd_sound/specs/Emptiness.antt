-- Which types the empty document fits, by marks on the nodes of a table.
use Rattle.std.specs.Prelude.{◌≡◌, ℕ, ◌<◌, ◌≤◌, Bool, true, false, ◌||◌, ◌&&◌, ◌⊎◌, ◌↔◌, List, [], ◌∷◌, length, take, get_or, Option, Some, None}
use Rattle.std.specs.List.{AllByRecursion}
use Rattle.std.specs.Str.{bytes_eq}
use Rattle.xd_doc.specs.Document.{empty}
use Rattle.xd_doc.specs.Members.{IsOneOf}
use Rattle.xd_syntax.specs.Words.{any_word}
use Rattle.xd_syntax.specs.Table.{Row, Form, empty_form, name_form, seq_form, alt_form, star_form, plus_form, opt_form, val_form, form_tree, tree_at, PartsBelow, CanFollow}
use Rattle.xd_syntax.specs.Fits.{Fits}
use Rattle.xd_syntax.specs.SoundTables.{definition_of}
use Rattle.xd_syntax.specs.declared.types.TypeDef.{TypeDef}
use Rattle.xd_sound.specs.Graph.{HasEdge}
use Rattle.xd_sound.specs.TypeNames.{meanings}
use Rattle.xd_syntax.specs.Nodes.{form_at}

abbrev pub is_marked : List Bool → ℕ → Bool
is_marked marks i = get_or marks i false

-- the mark of each node says whether the empty document fits it
pub record AreEmptyMarks (types : List Row) (ds : List TypeDef) (marks : List Bool) : Type 0 where
  pub count : length marks ≡ length types
  pub exact : (i : ℕ) → i < length types → (is_marked marks i ≡ true) ↔ Fits (meanings types ds) (tree_at types i) empty

-- the same, where the newest nodes may have no mark, but those that definitions stand for have one
pub record AreEmptySoFar (types : List Row) (ds : List TypeDef) (marks : List Bool) : Type 0 where
  pub count : length marks ≤ length types
  pub bodies : AllByRecursion (λ (d : TypeDef). d.body.at < length marks) ds
  pub exact : (i : ℕ) → i < length marks → (is_marked marks i ≡ true) ↔ Fits (meanings types ds) (tree_at types i) empty

abbrev pub body_marked : List Bool → Option TypeDef → Bool
body_marked marks None = false
body_marked marks (Some d) = is_marked marks d.body.at

-- `Any` can be empty, and a name whose first definition is marked
abbrev pub name_marked : List Bool → List TypeDef → List ℕ → Bool
name_marked marks ds w = bytes_eq any_word w || body_marked marks (definition_of ds w)

abbrev pub all_marked : List Bool → List ℕ → Bool
all_marked marks [] = true
all_marked marks (i ∷ is) = is_marked marks i && all_marked marks is

abbrev pub some_marked : List Bool → List ℕ → Bool
some_marked marks [] = false
some_marked marks (i ∷ is) = is_marked marks i || some_marked marks is

-- whether a node can be empty, where marks answer for its parts and for names
abbrev pub form_marked : List Bool → List TypeDef → Form → Bool
form_marked marks ds empty_form = true
form_marked marks ds (name_form w) = name_marked marks ds w
form_marked marks ds (seq_form is) = all_marked marks is
form_marked marks ds (alt_form is) = some_marked marks is
form_marked marks ds (star_form i) = true
form_marked marks ds (plus_form i) = is_marked marks i
form_marked marks ds (opt_form i) = true
form_marked marks ds (val_form x p i) = is_marked marks i
form_marked marks ds _ = false

abbrev pub body_number : Option TypeDef → List ℕ
body_number None = []
body_number (Some d) = d.body.at ∷ []

-- the nodes on whose marks that depends
abbrev pub depends_on : List TypeDef → Form → List ℕ
depends_on ds (name_form w) = body_number (definition_of ds w)
depends_on ds (seq_form is) = is
depends_on ds (alt_form is) = is
depends_on ds (plus_form i) = i ∷ []
depends_on ds (val_form x p i) = i ∷ []
depends_on ds _ = []

-- a node's tree is that of its form, whose parts are older nodes
pub record IsRead (types : List Row) (i : ℕ) : Type 0 where
  pub tree : tree_at types i ≡ form_tree (tree_at types) (form_at types i)
  pub parts : PartsBelow i (form_at types i)
  pub follows : CanFollow false (take i types) (form_at types i)

abbrev pub AreRead : List Row → Type 0
AreRead types = (i : ℕ) → i < length types → IsRead types i

-- an edge leads from each node to those that depend on it
pub record AreDependents (types : List Row) (ds : List TypeDef) (g : List (List ℕ)) : Type 0 where
  pub count : length g ≡ length types
  pub all : (i j : ℕ) → i < length types → IsOneOf j (depends_on ds (form_at types i)) → HasEdge g j i

-- edges to a node are added, one from each of these at least
pub record AddsEdges (old new : List (List ℕ)) (at : ℕ) (from : List ℕ) : Type 0 where
  pub count : length new ≡ length old
  pub kept : (v w : ℕ) → HasEdge old v w → HasEdge new v w
  pub added : (j : ℕ) → IsOneOf j from → HasEdge new j at

-- Marks are right; a node without one that could have one is still to be visited.
pub record IsMarking (types : List Row) (ds : List TypeDef) (marks : List Bool) (waiting : List ℕ) : Type 0 where
  pub count : length marks ≡ length types
  pub right : (i : ℕ) → is_marked marks i ≡ true → Fits (meanings types ds) (tree_at types i) empty
  pub pending : (i : ℕ) → i < length types → (is_marked marks i ≡ true) ⊎ (IsOneOf i waiting ⊎ (form_marked marks ds (form_at types i) ≡ false))
  pub within : (i : ℕ) → IsOneOf i waiting → i < length types
