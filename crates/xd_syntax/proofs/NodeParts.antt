-- The parts of a node, in order.
use Rattle.std.proofs.Common.{◌≡◌, ℕ, ◌<◌, Bool, List, length, get_or, ap, sym, ◌∙◌, arith}
use Rattle.std.specs.List.{AllByRecursion}
use Rattle.std.proofs.lemmas.List.{get_or_default}
use Rattle.xd_base.specs.declared.Place.{Place}
use Rattle.xd_syntax.specs.Table.{Row, Form, empty_form, text_form, words_form, name_form, elem_form, seq_form, alt_form, star_form, plus_form, opt_form, val_form, PartsBelow}
use Rattle.xd_syntax.specs.PlacedTable.{the_start, placed_at, placed_form}
use Rattle.xd_syntax.specs.Nodes.{form_parts, view_form, IsNode, parts_of}
use Rattle.xd_syntax.specs.declared.nodes.FormView.{FormView}

pub form_parts_below : (n : ℕ) (f : Form) → PartsBelow n f → AllByRecursion (λ i. i < n) (form_parts f)
form_parts_below n empty_form p = tt
form_parts_below n text_form p = tt
form_parts_below n (words_form w) p = tt
form_parts_below n (name_form w) p = tt
form_parts_below n (elem_form c i) p = (p, tt)
form_parts_below n (seq_form is) p = p
form_parts_below n (alt_form is) p = p
form_parts_below n (star_form i) p = (p, tt)
form_parts_below n (plus_form i) p = (p, tt)
form_parts_below n (opt_form i) p = (p, tt)
form_parts_below n (val_form x q i) p = (p, tt)

-- the parts of a node, from its form
pub parts_seen : (rows : List Row) (i : ℕ) (r : Row) → r ≡ get_or rows i r → i < length rows → parts_of rows i ≡ form_parts r.form
parts_seen rows i r e h =
    ap (λ (q : Row). form_parts q.form) (get_or_default rows i (record { place = the_start; form = empty_form }) r h ∙ sym e)

pub parts_viewed : (b : Bool) (rows : List Row) (i j : ℕ) (p : Place) (f : Form) (is : List ℕ) → IsNode b rows j p f → is ≡ form_parts f → j ≡ i → i < length rows → is ≡ parts_of rows i
parts_viewed b rows i j p f is n e k h =
    e ∙ sym (parts_seen rows j (record { place = p; form = f }) n.row (omega arith)) ∙ ap (parts_of rows) k

-- the tree of a node that is seen as this form
pub viewed_tree : {I : Type 0} (at : I → ℕ) (b : Bool) (rows : List Row) (i : ℕ) (p : Place) (f g : FormView I) → IsNode b rows i p (view_form at f) → f ≡ g →
    placed_at rows i ≡ placed_form (placed_at rows) p (view_form at g)
viewed_tree at b rows i p f g n e = n.placed ∙ ap (λ h. placed_form (placed_at rows) p (view_form at h)) e
