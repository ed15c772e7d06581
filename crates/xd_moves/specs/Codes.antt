-- Forms as lists of numbers.
use Rattle.std.specs.Prelude.{ℕ, Bool, true, false, List, [], ◌∷◌, ◌++◌, map, length, get_or}
use Rattle.xd_syntax.specs.Table.{Form, empty_form, text_form, words_form, name_form, elem_form, seq_form, alt_form, star_form, plus_form, opt_form, val_form}

-- the number of the node at this position
abbrev pub number_at : List ℕ → ℕ → ℕ
number_at numbers i = get_or numbers i 0

-- names one after the other, each after its length
abbrev pub code_names : List (List ℕ) → List ℕ
code_names [] = []
code_names (w ∷ ws) = length w ∷ (w ++ code_names ws)

abbrev pub code_except : Bool → ℕ
code_except false = 0
code_except true = 1

-- A form as a list of numbers, where its parts have these. Where the numbers tell the parts apart,
-- forms of different types have different lists.
abbrev pub form_code : (ℕ → ℕ) → Form → List ℕ
form_code num empty_form = 0 ∷ []
form_code num text_form = 1 ∷ []
form_code num (words_form w) = 2 ∷ (code_except w.except ∷ code_names w.names)
form_code num (name_form x) = 3 ∷ x
form_code num (elem_form c i) = 4 ∷ (num i ∷ (code_except c.except ∷ code_names c.names))
form_code num (seq_form is) = 5 ∷ map num is
form_code num (alt_form is) = 6 ∷ map num is
form_code num (star_form i) = 7 ∷ (num i ∷ [])
form_code num (plus_form i) = 8 ∷ (num i ∷ [])
form_code num (opt_form i) = 9 ∷ (num i ∷ [])
form_code num (val_form x p i) = 10 ∷ (num i ∷ x)

-- the form of the star of what `+` repeats; every other form stays
abbrev pub turn_form : Form → Form
turn_form (plus_form i) = star_form i
turn_form empty_form = empty_form
turn_form text_form = text_form
turn_form (words_form w) = words_form w
turn_form (name_form x) = name_form x
turn_form (elem_form c i) = elem_form c i
turn_form (seq_form is) = seq_form is
turn_form (alt_form is) = alt_form is
turn_form (star_form i) = star_form i
turn_form (opt_form i) = opt_form i
turn_form (val_form x p i) = val_form x p i
