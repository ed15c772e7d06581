-- Types as the program keeps them.
use Rattle.std.specs.Prelude.{ℕ, ◌<◌, List, map, length}
use Rattle.xd_syntax.specs.Tree.{Tree}
use Rattle.xd_syntax.specs.Table.{Row, Form, empty_form, text_form, words_form, name_form, elem_form, seq_form, alt_form, star_form, plus_form, opt_form, tree_at}
use Rattle.xd_syntax.specs.declared.types.TypeId.{TypeId}
use Rattle.xd_syntax.specs.declared.types.TypeForm.{TypeForm}
use Rattle.xd_syntax.specs.declared.types.TypeForm.TheVariants.{Empty, Text, Words, Name, Elem, Seq, Alt, Star, Plus, Opt}

abbrev pub type_numbers : List TypeId → List ℕ
type_numbers ids = map (λ id. id.at) ids

abbrev pub form_of : TypeForm → Form
form_of Empty = empty_form
form_of Text = text_form
form_of (Words w) = words_form w
form_of (Name w) = name_form w
form_of (Elem c i) = elem_form c i.at
form_of (Seq parts) = seq_form (type_numbers parts.items)
form_of (Alt parts) = alt_form (type_numbers parts.items)
form_of (Star i) = star_form i.at
form_of (Plus i) = plus_form i.at
form_of (Opt i) = opt_form i.at

-- the id's node is one of these
abbrev pub BelongsTo : List Row → TypeId → Type 0
BelongsTo types id = id.at < length types

-- the tree of a type
abbrev pub tree : List Row → TypeId → Tree
tree types id = tree_at types id.at
