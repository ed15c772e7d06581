-- Trees with places in a table of nodes.
use Rattle.std.specs.Prelude.{ℕ, List, [], ◌∷◌, ◌++◌, map, get_or}
use Rattle.xd_base.specs.declared.Place.{Place}
use Rattle.xd_syntax.specs.Table.{Form, empty_form, text_form, words_form, name_form, elem_form, seq_form, alt_form, star_form, plus_form, opt_form, val_form, Row}
use Rattle.xd_syntax.specs.Placed.{Elem_at, Empty_at, Name_at, Opt_at, PlacedTree, Plus_at, Star_at, Text_at, Val_at, Words_at, placed_alt, placed_seq}

-- the tree of a row whose parts have these trees
abbrev pub placed_form : (ℕ → PlacedTree) → Place → Form → PlacedTree
placed_form t p empty_form = Empty_at p
placed_form t p text_form = Text_at p
placed_form t p (words_form w) = Words_at p w
placed_form t p (name_form w) = Name_at p w
placed_form t p (elem_form c i) = Elem_at p c (t i)
placed_form t p (seq_form is) = placed_seq p (map t is)
placed_form t p (alt_form is) = placed_alt p (map t is)
placed_form t p (star_form i) = Star_at p (t i)
placed_form t p (plus_form i) = Plus_at p (t i)
placed_form t p (opt_form i) = Opt_at p (t i)
placed_form t p (val_form x q i) = Val_at p x q (t i)

abbrev pub the_start : Place
the_start = record { line = 1; column = 1 }

abbrev pub placed_in : List PlacedTree → ℕ → PlacedTree
placed_in ts i = get_or ts i (Empty_at the_start)

abbrev pub placed_after : List PlacedTree → List Row → List PlacedTree
placed_after ts [] = ts
placed_after ts (r ∷ rs) = placed_after (ts ++ placed_form (placed_in ts) r.place r.form ∷ []) rs

-- the tree of the node with this number, with places
unfoldable pub placed_at : List Row → ℕ → PlacedTree
placed_at rs i = placed_in (placed_after [] rs) i
