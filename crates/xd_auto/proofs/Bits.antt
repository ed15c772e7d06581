-- One bit among words of 64 bits.
use Rattle.std.proofs.Common.{ℕ, ◌≡◌, ◌≢◌, ◌⊎◌, ◌/◌, ◌%◌, ◌<◌, Bool, true, false, cond, List, length, get_or, set, nat_eq, arith, refl, inl, inr, get_or-set_other, get_or-set_same}
use Rattle.std.specs.Int.{bit_at}
use Rattle.std.proofs.lemmas.Bool.{cases_eq}
use Rattle.xd_auto.specs.Marks.{bit_of, SetsBit}

-- a bit of a word that changed
pub SetsBit-word : (words : List ℕ) (w b place word : ℕ) (value : Bool) → w < length words → place / 64 ≡ w → place % 64 ≡ b
    → bit_at word b ≡ cond value 1 0 → ((i : ℕ) → i < 64 → i ≢ b → bit_at word i ≡ bit_at (get_or words w 0) i) → SetsBit place value words (set words w word)
SetsBit-word words w b place word value room at_word at_bit here others = record {
  there =
      rw (at_word, at_bit, get_or-set_same words w word 0 room, here) (by_value value);
  others = λ j ne. other j ne (cases_eq (j / 64) w);
}
  where
    by_value : (v : Bool) → nat_eq (cond v 1 0) 1 ≡ v
    by_value true = refl
    by_value false = refl

    other : (j : ℕ) → j ≢ place → (j / 64 ≡ w) ⊎ (j / 64 ≢ w) → bit_of (set words w word) j ≡ bit_of words j
    other j ne (inl e) =
        let ne_bit : j % 64 ≢ b = λ f. ne (omega arith) in
        let below : j % 64 < 64 = omega arith in
        rw (e, get_or-set_same words w word 0 room, others (j % 64) below ne_bit) refl
    other j ne (inr n) = rw (get_or-set_other words w (j / 64) word 0 n) refl
