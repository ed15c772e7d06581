-- Numbers of heads: a table counts a state's moves on elements first and then those on texts, a
-- proof counts the heads of a type in order.
use Rattle.std.specs.Prelude.{ℕ, zero, suc, ◌+◌, Bool, true, false, cond, not, List, [], ◌∷◌, ◌++◌, map, length, slice_index_or}
use Rattle.xd_proof_make.specs.declared.places.Place.{Place}

-- the numbers of the texts, or of the elements, among heads of these sorts that are counted from n
abbrev pub numbers_of : (texts : Bool) → ℕ → List Bool → List ℕ
numbers_of texts n [] = []
numbers_of texts n (s ∷ ss) = cond (cond texts s (not s)) (n ∷ numbers_of texts (n + 1) ss) (numbers_of texts (n + 1) ss)

-- the numbers of all of them, elements first
abbrev pub places_of : ℕ → List Bool → List ℕ
places_of n ss = numbers_of false n ss ++ numbers_of true n ss

-- those of the heads of several types, one type after the other
abbrev pub all_places : ℕ → List (List Bool) → List ℕ
all_places n [] = []
all_places n (ss ∷ sss) = places_of n ss ++ all_places (n + length ss) sss

-- the new number of a head, by its number in the table
abbrev pub place_in : List ℕ → ℕ → ℕ
place_in places zero = 0
place_in places (suc i) = slice_index_or places i 0

abbrev pub new_numbers : List Place → List ℕ
new_numbers ps = map (λ (p : Place). p.number) ps
