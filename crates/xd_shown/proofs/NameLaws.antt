-- The names `S1`, `S2` and so on may name types, and differ.
use Rattle.std.proofs.Common.{◌≡◌, ◌≢◌, ℕ, ◌+◌, ◌%◌, ◌<◌, ◌^◌, Bool, true, false, not, ◌&&◌, ◌||◌, List, [], ◌∷◌, ◌++◌, drop, nat_eq, nat_lt, nat_le, decimal, codes, refl, ap, ◌∙◌, arith}
use Rattle.std.specs.Str.{bytes_eq}
use Rattle.std.proofs.lemmas.Bool.{and_parts, and_from}
use Rattle.std.proofs.lemmas.Bool.Decides.{nat_tests}
use Rattle.std.proofs.lemmas.Fmt.{decimal_by_steps, decimal_injective}
use Rattle.std.proofs.lemmas.Slice.Eq.{bytes_eq-Decides}
use Rattle.xd_doc.specs.Word.{is_word_start, is_word_part, are_word_parts, is_word}
use Rattle.xd_doc.proofs.Bools.{or_true}
use Rattle.xd_syntax.specs.Words.{any_word}
use Rattle.xd_syntax.specs.Keywords.{is_type_name}
use Rattle.xd_shown.specs.Shown.{shown_name}

-- ---- digits
-- it begins with a byte up to `9`
abbrev begins_low : List ℕ → Bool
begins_low [] = false
begins_low (c ∷ cs) = nat_lt c 58

record AreDigits (ds : List ℕ) : Type 0 where
  parts : are_word_parts ds ≡ true
  low : begins_low ds ≡ true

digit_part : (m : ℕ) → m < 10 → is_word_part (48 + m) ≡ true
digit_part m h =
    let a : nat_le 48 (48 + m) ≡ true = grind (arith, nat_tests, h) in
    let b : nat_le (48 + m) 57 ≡ true = grind (arith, nat_tests, h) in
    let c : (nat_le 48 (48 + m) && nat_le (48 + m) 57) ≡ true = and_from _ _ a b in
    ap (λ b. is_word_start (48 + m) || b) c ∙ or_true (is_word_start (48 + m))

digit_low : (m : ℕ) → m < 10 → nat_lt (48 + m) 58 ≡ true
digit_low m h = grind (arith, nat_tests, h)

parts_push : (ds : List ℕ) (c : ℕ) → are_word_parts ds ≡ true → is_word_part c ≡ true → are_word_parts (ds ++ c ∷ []) ≡ true
parts_push [] c a h = and_from (is_word_part c) true h refl
parts_push (d ∷ ds) c a h = let b = and_parts (is_word_part d) (are_word_parts ds) a in and_from (is_word_part d) (are_word_parts (ds ++ c ∷ [])) b.0 (parts_push ds c b.1 h)

low_push : (ds : List ℕ) (c : ℕ) → begins_low ds ≡ true → begins_low (ds ++ c ∷ []) ≡ true
low_push [] c h = absurd (cc)
low_push (d ∷ ds) c h = h

one_digit : (n : ℕ) → n < 10 → AreDigits ((48 + n) ∷ [])
one_digit n h = record { parts = parts_push [] (48 + n) refl (digit_part n h); low = digit_low n h }

more_digits : (n : ℕ) (ds : List ℕ) → AreDigits ds → AreDigits (ds ++ ((48 + n % 10) ∷ []))
more_digits n ds a =
    let h : n % 10 < 10 = omega arith in
    record { parts = parts_push ds (48 + n % 10) a.parts (digit_part (n % 10) h); low = low_push ds (48 + n % 10) a.low }

are_digits : (n : ℕ) → n < 2 ^ 64 → AreDigits (decimal n)
are_digits n h = decimal_by_steps (λ m ds. AreDigits ds) one_digit (λ m ds l a. more_digits m ds a) n h

-- ---- names
pub name_word : (n : ℕ) → n < 2 ^ 64 → is_word (shown_name n) ≡ true
name_word n h = (are_digits n h).parts

not_t : (c : ℕ) → nat_lt c 58 ≡ true → nat_eq 116 c ≡ false
not_t c h = grind (arith, nat_tests, h)

not_tring : (ds : List ℕ) → begins_low ds ≡ true → bytes_eq (codes "tring") ds ≡ false
not_tring [] h = refl
not_tring (c ∷ cs) h = ap (λ b. b && bytes_eq (codes "ring") cs) (not_t c h)

pub name_proper : (n : ℕ) → n < 2 ^ 64 → is_type_name (shown_name n) ≡ true
name_proper n h = ap not (not_tring (decimal n) (are_digits n h).low)

pub name_other : (n : ℕ) → bytes_eq (shown_name n) any_word ≡ false
name_other n = refl

pub one_name : (m n : ℕ) → m < 2 ^ 64 → n < 2 ^ 64 → shown_name m ≡ shown_name n → m ≡ n
one_name m n h k e = decimal_injective m n h k (ap (drop 1) e)

pub other_names : (m n : ℕ) → m < 2 ^ 64 → n < 2 ^ 64 → m ≢ n → bytes_eq (shown_name m) (shown_name n) ≡ false
other_names m n h k d = go (bytes_eq (shown_name m) (shown_name n)) refl
  where
    go : (b : Bool) → bytes_eq (shown_name m) (shown_name n) ≡ b → b ≡ false
    go false e = refl
    go true e = absurd (d (one_name m n h k ((bytes_eq-Decides (shown_name m) (shown_name n)).0 e)))
