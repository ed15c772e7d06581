-- One view of both tables of nodes, types and patterns.
use Rattle.std.specs.Prelude.{◌≡◌, ℕ, Bool, List, [], ◌∷◌, map, get_or, take}
use Rattle.xd_base.specs.declared.Place.{Place}
use Rattle.xd_syntax.specs.Table.{Row, Form, empty_form, text_form, words_form, name_form, elem_form, seq_form, alt_form, star_form, plus_form, opt_form, val_form, form_tree, tree_at, PartsBelow, CanFollow}
use Rattle.xd_syntax.specs.PlacedTable.{placed_at, placed_form, the_start}
use Rattle.xd_syntax.specs.declared.nodes.FormView.{FormView}
use Rattle.xd_syntax.specs.declared.nodes.FormView.TheVariants.{Empty, Text, Words, Name, Elem, Seq, Alt, Star, Plus, Opt, Val}

-- what is read where no node stands
abbrev pub no_row : Row
no_row = record { place = the_start; form = empty_form }

abbrev pub row_at : List Row → ℕ → Row
row_at rows i = get_or rows i no_row

abbrev pub form_at : List Row → ℕ → Form
form_at rows i = (row_at rows i).form

-- the parts of a node, in order
abbrev pub form_parts : Form → List ℕ
form_parts (elem_form c i) = i ∷ []
form_parts (seq_form is) = is
form_parts (alt_form is) = is
form_parts (star_form i) = i ∷ []
form_parts (plus_form i) = i ∷ []
form_parts (opt_form i) = i ∷ []
form_parts (val_form x p i) = i ∷ []
form_parts _ = []

-- the parts of the node with this number
abbrev pub parts_of : List Row → ℕ → List ℕ
parts_of rows i = form_parts (form_at rows i)

-- the form that is seen, its parts as numbers of nodes
abbrev pub view_form : {I : Type 0} → (I → ℕ) → FormView I → Form
view_form at Empty = empty_form
view_form at Text = text_form
view_form at (Words w) = words_form w.now
view_form at (Name w) = name_form w.now
view_form at (Elem c i) = elem_form c.now (at i)
view_form at (Seq parts) = seq_form (map at parts.now)
view_form at (Alt parts) = alt_form (map at parts.now)
view_form at (Star i) = star_form (at i)
view_form at (Plus i) = plus_form (at i)
view_form at (Opt i) = opt_form (at i)
view_form at (Val x p i) = val_form x.now p (at i)

-- the node with this number has this place and this form
pub record IsNode (binders : Bool) (rows : List Row) (i : ℕ) (place : Place) (form : Form) : Type 0 where
  pub row : record { place = place; form = form } ≡ get_or rows i (record { place = place; form = form })
  pub tree : tree_at rows i ≡ form_tree (tree_at rows) form
  pub placed : placed_at rows i ≡ placed_form (placed_at rows) place form
  pub parts : PartsBelow i form
  pub merged : CanFollow binders (take i rows) form
