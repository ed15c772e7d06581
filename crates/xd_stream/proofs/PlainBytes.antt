-- Bytes that go on with a word or a quoted text.
use Rattle.std.proofs.Common.{◌≡◌, ℕ, ◌+◌, ◌<◌, true, List, [], ◌∷◌, ◌++◌, length, take, get_or, refl, ap, ◌∙◌}
use Rattle.std.proofs.lemmas.Bool.{and_from, and_parts}
use Rattle.std.proofs.lemmas.List.{take_more}
use Rattle.xd_doc.specs.Word.{are_word_parts, is_word_part}
use Rattle.xd_stream.specs.Runs.{are_plain, is_plain}

pub parts_join : (xs ys : List ℕ) → are_word_parts xs ≡ true → are_word_parts ys ≡ true → are_word_parts (xs ++ ys) ≡ true
parts_join [] ys h k = k
parts_join (x ∷ xs) ys h k = let p = and_parts (is_word_part x) (are_word_parts xs) h in and_from (is_word_part x) (are_word_parts (xs ++ ys)) p.0 (parts_join xs ys p.1 k)

plain_join : (xs ys : List ℕ) → are_plain xs ≡ true → are_plain ys ≡ true → are_plain (xs ++ ys) ≡ true
plain_join [] ys h k = k
plain_join (x ∷ xs) ys h k = let p = and_parts (is_plain x) (are_plain xs) h in and_from (is_plain x) (are_plain (xs ++ ys)) p.0 (plain_join xs ys p.1 k)

-- one more byte
pub parts_next : (xs : List ℕ) (i : ℕ) → i < length xs → are_word_parts (take i xs) ≡ true → is_word_part (get_or xs i 0) ≡ true → are_word_parts (take (i + 1) xs) ≡ true
parts_next xs i lt h k = ap are_word_parts (take_more xs i 0 lt) ∙ parts_join (take i xs) (get_or xs i 0 ∷ []) h (and_from (is_word_part (get_or xs i 0)) true k refl)

pub plain_next : (xs : List ℕ) (i : ℕ) → i < length xs → are_plain (take i xs) ≡ true → is_plain (get_or xs i 0) ≡ true → are_plain (take (i + 1) xs) ≡ true
plain_next xs i lt h k = ap are_plain (take_more xs i 0 lt) ∙ plain_join (take i xs) (get_or xs i 0 ∷ []) h (and_from (is_plain (get_or xs i 0)) true k refl)
