-- The place of a node is that of what it stands for.
use Rattle.std.proofs.Common.{◌≡◌, ℕ, ◌≤◌, arith, Bool, List, [], ◌∷◌, refl}
use Rattle.xd_base.specs.declared.Place.{Place}
use Rattle.xd_syntax.specs.Table.{Form, Row, CanFollow, empty_form, text_form, words_form, name_form, elem_form, seq_form, alt_form, star_form, plus_form, opt_form, val_form}
use Rattle.xd_syntax.specs.Placed.{PlacedTree, place_of}
use Rattle.xd_syntax.specs.PlacedTable.{placed_form}

pub form_place : (t : ℕ → PlacedTree) (p : Place) (b : Bool) (rs : List Row) (f : Form) → CanFollow b rs f → place_of (placed_form t p f) ≡ p
form_place t p b rs empty_form h = refl
form_place t p b rs text_form h = refl
form_place t p b rs (words_form w) h = refl
form_place t p b rs (name_form w) h = refl
form_place t p b rs (elem_form c i) h = refl
form_place t p b rs (seq_form []) h = absurd (let l : 2 ≤ 0 = h.0 in omega arith)
form_place t p b rs (seq_form (i ∷ [])) h = absurd (let l : 2 ≤ 1 = h.0 in omega arith)
form_place t p b rs (seq_form (i ∷ (j ∷ js))) h = refl
form_place t p b rs (alt_form []) h = absurd (let l : 2 ≤ 0 = h.0 in omega arith)
form_place t p b rs (alt_form (i ∷ [])) h = absurd (let l : 2 ≤ 1 = h.0 in omega arith)
form_place t p b rs (alt_form (i ∷ (j ∷ js))) h = refl
form_place t p b rs (star_form i) h = refl
form_place t p b rs (plus_form i) h = refl
form_place t p b rs (opt_form i) h = refl
form_place t p b rs (val_form x q i) h = refl
