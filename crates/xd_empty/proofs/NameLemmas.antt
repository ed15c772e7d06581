-- On what a class has.
use Rattle.std.proofs.Common.{◌≡◌, ℕ, Bool, true, false, ◌&&◌, List, [], ◌∷◌, ◌++◌, refl}
use Rattle.xd_doc.specs.Word.{is_word, is_word_start, is_word_part, are_word_parts}

parts_more : (w : List ℕ) → are_word_parts w ≡ true → are_word_parts (w ++ 120 ∷ []) ≡ true
parts_more [] h = refl
parts_more (c ∷ cs) h = go (is_word_part c) h (λ e. parts_more cs e)
  where
    go : (b : Bool) → (b && are_word_parts cs) ≡ true → (are_word_parts cs ≡ true → are_word_parts (cs ++ 120 ∷ []) ≡ true) → (b && are_word_parts (cs ++ 120 ∷ [])) ≡ true
    go true h ih = ih h
    go false h ih = cc

-- a word with one more `x`
pub word_more : (w : List ℕ) → is_word w ≡ true → is_word (w ++ 120 ∷ []) ≡ true
word_more [] h = cc
word_more (c ∷ cs) h = go (is_word_start c) h
  where
    go : (b : Bool) → (b && are_word_parts cs) ≡ true → (b && are_word_parts (cs ++ 120 ∷ [])) ≡ true
    go true h = parts_more cs h
    go false h = cc
