-- A type taken into a program: the nodes that it reaches, and their copies.
use Rattle.std.specs.Prelude.{◌↔◌, ℕ, suc, ◌<◌, ◌≤◌, Bool, true, cond, nat_lt, List, [], ◌∷◌, map, length, get_or}
use Rattle.std.specs.List.{Contains}
use Rattle.xd_syntax.specs.Words.{has_word}
use Rattle.xd_syntax.specs.TreeForms.{size}
use Rattle.xd_syntax.specs.Table.{Row, tree_at, Form, name_form, elem_form, seq_form, alt_form, star_form, plus_form, opt_form, val_form}
use Rattle.xd_syntax.specs.Types.{type_numbers}
use Rattle.xd_syntax.specs.Nodes.{parts_of}
use Rattle.xd_syntax.specs.declared.types.TypeId.{TypeId}

-- it is this node, or a part of one that this node reaches
pub data Reaches (rows : List Row) (from : ℕ) : ℕ → Type 0 where
  itself : Reaches rows from from
  part : {j : ℕ} (i : ℕ) → Reaches rows from i → Contains (parts_of rows i) j → Reaches rows from j

-- each is smaller than those after it
abbrev pub AreRising : List ℕ → Type 0
AreRising is = (m n : ℕ) → m < n → n < length is → get_or is m 0 < get_or is n 0

-- these are the nodes that it reaches, each once, the oldest first
pub record AreReached (rows : List Row) (from : ℕ) (is : List ℕ) : Type 0 where
  pub rising : AreRising is
  pub exact : (i : ℕ) → Contains is i ↔ Reaches rows from i
  pub few : length is ≤ size (tree_at rows from)

-- if the node is a name, it is among these
abbrev pub form_known : List (List ℕ) → Form → Bool
form_known known (name_form w) = has_word known w
form_known known _ = true

-- how many of these come before the first that is not smaller
abbrev pub place_among : List ℕ → ℕ → ℕ
place_among [] i = 0
place_among (j ∷ js) i = cond (nat_lt j i) (suc (place_among js i)) 0

-- the copy of a node, where these are the copies of those
abbrev pub copy_from : List TypeId → List ℕ → ℕ → TypeId
copy_from copies originals i = get_or copies (place_among originals i) (record { at = 0 })

-- the form over the copies of its parts
abbrev pub copied_form : (ℕ → TypeId) → Form → Form
copied_form copy (elem_form c i) = elem_form c (copy i).at
copied_form copy (seq_form is) = seq_form (type_numbers (map copy is))
copied_form copy (alt_form is) = alt_form (type_numbers (map copy is))
copied_form copy (star_form i) = star_form (copy i).at
copied_form copy (plus_form i) = plus_form (copy i).at
copied_form copy (opt_form i) = opt_form (copy i).at
copied_form copy (val_form x p i) = val_form x p (copy i).at
copied_form copy f = f
