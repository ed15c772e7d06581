-- Tables of types that grow, and the names that their nodes use.
use Rattle.std.specs.Prelude.{◌≡◌, ℕ, Bool, true, List}
use Rattle.std.specs.List.{AllByRecursion}
use Rattle.xd_syntax.specs.Words.{any_word, has_word}
use Rattle.xd_syntax.specs.Table.{Form, Row, name_form, KeepsRows}

-- if the node is a name, it is among these
abbrev pub form_named : List (List ℕ) → Form → Bool
form_named known (name_form w) = has_word known w
form_named known _ = true

-- each node that is a name is among these
abbrev pub NamesAmong : List (List ℕ) → List Row → Type 0
NamesAmong known rows = AllByRecursion (λ (r : Row). form_named known r.form ≡ true) rows

-- a node of this form was added, if any
pub record GrowsBy (form : Form) (old new : List Row) : Type 0 where
  pub rows : KeepsRows old new
  pub names : (known : List (List ℕ)) → form_named known form ≡ true → NamesAmong known old → NamesAmong known new

-- nodes were added, but no names aside from `Any`
pub record GrowsTypes (old new : List Row) : Type 0 where
  pub rows : KeepsRows old new
  pub names : (known : List (List ℕ)) → has_word known any_word ≡ true → NamesAmong known old → NamesAmong known new
