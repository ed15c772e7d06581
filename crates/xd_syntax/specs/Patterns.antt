-- Patterns as the program keeps them.
use Rattle.std.specs.Prelude.{ℕ, ◌<◌, List, map, length}
use Rattle.xd_syntax.specs.Tree.{Tree}
use Rattle.xd_syntax.specs.Table.{Row, Form, empty_form, text_form, words_form, name_form, elem_form, seq_form, alt_form, star_form, plus_form, opt_form, val_form, tree_at}
use Rattle.xd_syntax.specs.declared.patterns.PatternId.{PatternId}
use Rattle.xd_syntax.specs.declared.patterns.PatternForm.{PatternForm}
use Rattle.xd_syntax.specs.declared.patterns.PatternForm.TheVariants.{Empty, Text, Words, Name, Elem, Seq, Alt, Star, Plus, Opt, Val}

abbrev pub pattern_numbers : List PatternId → List ℕ
pattern_numbers ids = map (λ id. id.at) ids

abbrev pub form_of_pattern : PatternForm → Form
form_of_pattern Empty = empty_form
form_of_pattern Text = text_form
form_of_pattern (Words w) = words_form w
form_of_pattern (Name w) = name_form w
form_of_pattern (Elem c i) = elem_form c i.at
form_of_pattern (Seq parts) = seq_form (pattern_numbers parts.items)
form_of_pattern (Alt parts) = alt_form (pattern_numbers parts.items)
form_of_pattern (Star i) = star_form i.at
form_of_pattern (Plus i) = plus_form i.at
form_of_pattern (Opt i) = opt_form i.at
form_of_pattern (Val x p i) = val_form x p i.at

-- the id's node is one of these
abbrev pub IsPattern : List Row → PatternId → Type 0
IsPattern patterns id = id.at < length patterns

-- the tree of a pattern
abbrev pub pattern_tree : List Row → PatternId → Tree
pattern_tree patterns id = tree_at patterns id.at
