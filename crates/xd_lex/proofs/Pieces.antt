-- Pieces of a quoted text, from the front on.
use Rattle.std.proofs.Common.{◌≡◌, ◌≢◌, ℕ, zero, suc, ◌+◌, ◌-◌, ◌<◌, ◌≤◌, Bool, true, false, not, List, [], ◌∷◌, ◌++◌, length, get_or, drop, take, refl, sym, ap, subst, ◌∙◌, arith, append_assoc, length-append}
use Rattle.std.specs.Prelude.{◌==◌, slice_range}
use Rattle.std.proofs.Math.Seq.{take-append_seam}
use Rattle.std.specs.Prelude.{IsUtf8}
use Rattle.std.specs.Str.{IsCharBoundary}
use Rattle.std.proofs.lemmas.Str.{IsCharBoundary-after_ascii}
use Rattle.std.proofs.lemmas.List.{take_all, drop_all, append-nil, get_or-drop}
use Rattle.std.proofs.lemmas.List.Edits.{length-between, get_or-between}
use Rattle.std.proofs.lemmas.Bool.Decides.{nat_tests}
use Rattle.xd_lex.specs.Scan.{is_escape}
use Rattle.xd_lex.specs.Spellings.{are_pieces}
use Rattle.xd_lex.specs.Spelled.{characters, escape_meaning, unescaped}
use Rattle.std.proofs.lemmas.Bool.{and_parts, not-true, ne_eqb}

-- pieces may be cut after their first n bytes, and the first n stand for themselves
pub record IsPlain (pieces : List ℕ) (n : ℕ) : Type 0 where
  pub behind : are_pieces false (drop n pieces) ≡ true
  pub same : characters false (pieces ++ 34 ∷ []) ≡ take n pieces ++ characters false (drop n pieces ++ 34 ∷ [])

pub plain : (pieces : List ℕ) (n : ℕ) → are_pieces false pieces ≡ true → n ≤ length pieces → ((k : ℕ) → k < n → get_or pieces k 0 ≢ 92) → IsPlain pieces n
plain [] zero h l before = record { behind = h; same = refl }
plain [] (suc n) h l before = absurd (omega arith)
plain (b ∷ bs) zero h l before = record { behind = h; same = refl }
plain (b ∷ bs) (suc n) h l before =
    let e : (b == 92) ≡ false = ne_eqb b 92 (before 0 (omega arith)) in
    let q : (b == 34) ≡ false = not-true (b == 34) (and_parts (not (b == 34)) (are_pieces (b == 92) bs) h).0 in
    let g : are_pieces false bs ≡ true = ap (λ (x : Bool). are_pieces x bs) (sym e) ∙ (and_parts (not (b == 34)) (are_pieces (b == 92) bs) h).1 in
    let r : IsPlain bs n = plain bs n g (omega arith) (λ k lt. before (suc k) (omega arith)) in
    record { behind = r.behind; same = rw (q, e) (ap (λ (xs : List ℕ). b ∷ xs) r.same) }

-- a backslash, and a character that makes an escape
pub record IsEscape (pieces : List ℕ) : Type 0 where
  pub two : 2 ≤ length pieces
  pub escape : is_escape (get_or pieces 1 0) ≡ true
  pub behind : are_pieces false (drop 2 pieces) ≡ true
  pub same : characters false (pieces ++ 34 ∷ []) ≡ escape_meaning (get_or pieces 1 0) ∷ characters false (drop 2 pieces ++ 34 ∷ [])

escape_behind : (bs : List ℕ) → are_pieces true bs ≡ true → IsEscape (92 ∷ bs)
escape_behind [] h = cc
escape_behind (c ∷ bs) h = record {
  two = omega arith;
  escape = (and_parts (is_escape c) (are_pieces false bs) h).0;
  behind = (and_parts (is_escape c) (are_pieces false bs) h).1;
  same = refl;
}

pub escape_front : (pieces : List ℕ) → are_pieces false pieces ≡ true → 0 < length pieces → get_or pieces 0 0 ≡ 92 → IsEscape pieces
escape_front [] h l e = absurd (omega arith)
escape_front (b ∷ bs) h l e = subst (λ (x : ℕ). IsEscape (x ∷ bs)) (sym e) (escape_behind bs (subst (λ (x : ℕ). are_pieces false (x ∷ bs) ≡ true) e h))

ascii : (b : ℕ) → is_escape b ≡ true → b < 128
ascii b h = grind (arith, nat_tests)

pub escape_ascii : (pieces : List ℕ) → IsEscape pieces → get_or pieces 1 0 < 128
escape_ascii pieces e = ascii (get_or pieces 1 0) e.escape

-- the characters so far, once the rest has no escape
pub finished : (made rest all : List ℕ) (n : ℕ) → IsPlain rest n → n ≡ length rest → made ++ characters false (rest ++ 34 ∷ []) ≡ all → made ++ rest ≡ all
finished made rest all n r e h =
    let full : take n rest ≡ rest = take_all n rest (omega arith) in
    let none : drop n rest ≡ [] = drop_all n rest (omega arith) in
    let same : characters false (rest ++ 34 ∷ []) ≡ rest = r.same ∙ rw (full, none) (append-nil rest) in
    ap (λ (xs : List ℕ). made ++ xs) (sym same) ∙ h

-- the characters so far, after a plain part and an escape
pub went_on : (made rest all front back character behind : List ℕ) (n : ℕ) → IsPlain rest n → front ≡ take n rest → back ≡ drop n rest → characters false (back ++ 34 ∷ []) ≡ character ++ characters false (behind ++ 34 ∷ [])
    → made ++ characters false (rest ++ 34 ∷ []) ≡ all → ((made ++ front) ++ character) ++ characters false (behind ++ 34 ∷ []) ≡ all
went_on made rest all front back character behind n r front_is back_is escape h =
    let same : characters false (rest ++ 34 ∷ []) ≡ front ++ (character ++ characters false (behind ++ 34 ∷ [])) = r.same ∙ rw (← front_is, ← back_is, escape) refl in
    append_assoc (made ++ front) character (characters false (behind ++ 34 ∷ [])) ∙ append_assoc made front (character ++ characters false (behind ++ 34 ∷ [])) ∙ ap (λ (xs : List ℕ). made ++ xs) (sym same) ∙ h

pub escape_there : (rest back : List ℕ) (n : ℕ) → back ≡ drop n rest → get_or rest n 0 ≡ 92 → get_or back 0 0 ≡ 92
escape_there rest back n e h = rw (e, get_or-drop n rest 0 0) (let z : n + 0 ≡ n = omega arith in rw z h)

-- the same, of bytes that were read
pub plain_bytes : (pieces bytes : List ℕ) (n : ℕ) → bytes ≡ pieces → are_pieces false pieces ≡ true → n ≤ length bytes → ((k : ℕ) → k < n → get_or bytes k 0 ≢ 92) → IsPlain pieces n
plain_bytes pieces bytes n e h l before = plain pieces n h (subst (λ (xs : List ℕ). n ≤ length xs) e l) (subst (λ (xs : List ℕ). (k : ℕ) → k < n → get_or xs k 0 ≢ 92) e before)

-- a quote, pieces, and a quote
pub inside : (text pieces : List ℕ) → text ≡ 34 ∷ pieces ++ 34 ∷ [] → take (length text - 1 - 1) (drop 1 text) ≡ pieces
inside text pieces e =
    let l : length text - 1 - 1 ≡ length pieces = omega (arith, ap length e, length-append pieces (34 ∷ [])) in
    rw (l, e) (take-append_seam pieces (34 ∷ []))

pub text_of_pieces : (text pieces : List ℕ) → text ≡ 34 ∷ pieces ++ 34 ∷ [] → unescaped text ≡ characters false (pieces ++ 34 ∷ [])
text_of_pieces text pieces e = ap unescaped e

pub behind_quote : (text pieces : List ℕ) → text ≡ 34 ∷ pieces ++ 34 ∷ [] → IsUtf8 text → IsCharBoundary text 1
behind_quote text pieces e u =
    let l : 0 < length text = omega (arith, ap length e) in
    let q : get_or text 0 0 ≡ 34 = ap (λ (xs : List ℕ). get_or xs 0 0) e in
    IsCharBoundary-after_ascii text 0 u l (omega (arith, q))

pub no_escape : (text pieces read : List ℕ) → text ≡ 34 ∷ pieces ++ 34 ∷ [] → are_pieces false pieces ≡ true → read ≡ pieces → (n : ℕ) → n ≡ length read → ((k : ℕ) → k < n → get_or read k 0 ≢ 92) → read ≡ unescaped text
no_escape text pieces read e h is n l before =
    let r : IsPlain read n = plain read n (subst (λ (xs : List ℕ). are_pieces false xs ≡ true) (sym is) h) (omega arith) before in
    finished [] read (unescaped text) n r l (ap (λ (xs : List ℕ). characters false (xs ++ 34 ∷ [])) is ∙ sym (text_of_pieces text pieces e))

pub escape_same : (pieces bytes meaning behind : List ℕ) → IsEscape pieces → bytes ≡ pieces → meaning ≡ escape_meaning (get_or bytes 1 0) ∷ [] → behind ≡ drop 2 pieces → characters false (pieces ++ 34 ∷ []) ≡ meaning ++ characters false (behind ++ 34 ∷ [])
escape_same pieces bytes meaning behind e is m b = rw (m, b, is) e.same

-- what is between the quotes, as it was read
between_quotes : (text bytes : List ℕ) → bytes ≡ text → take (length text - 1 - 1) (drop 1 bytes) ≡ slice_range text 1 (length text - 1)
between_quotes text bytes e = ap (λ (xs : List ℕ). take (length text - 1 - 1) (drop 1 xs)) e

pub plain_token : (text bytes pieces : List ℕ) (n : ℕ) → bytes ≡ text → text ≡ 34 ∷ pieces ++ 34 ∷ [] → are_pieces false pieces ≡ true → let read = take (length text - 1 - 1) (drop 1 bytes) in n ≡ length read → ((k : ℕ) → k < n → get_or read k 0 ≢ 92) → unescaped text ≡ slice_range text 1 (length text - 1)
plain_token text bytes pieces n e t h l before =
    let read : take (length text - 1 - 1) (drop 1 bytes) ≡ slice_range text 1 (length text - 1) = between_quotes text bytes e in
    sym (no_escape text pieces (take (length text - 1 - 1) (drop 1 bytes)) t h (read ∙ inside text pieces t) n l before) ∙ read

pub escape_within : (text bytes : List ℕ) (n : ℕ) → bytes ≡ text → let read = take (length text - 1 - 1) (drop 1 bytes) in n ≤ length read → (n ≡ length read → ⊥) → (n < length read → get_or read n 0 ≡ 92) → (k : ℕ) × (get_or text k 0 ≡ 92)
escape_within text bytes n e within other found =
    let read : take (length text - 1 - 1) (drop 1 bytes) ≡ slice_range text 1 (length text - 1) = between_quotes text bytes e in
    let lt : n < length (slice_range text 1 (length text - 1)) = rw (ap length read) at (let l : n < length (take (length text - 1 - 1) (drop 1 bytes)) = omega (arith, other) in l) in
    let len : length (slice_range text 1 (length text - 1)) ≡ length text - 1 - 1 = length-between text 1 (length text - 1) (omega arith) in
    (1 + n, sym (get_or-between text 1 (length text - 1) n 0 (omega arith)) ∙ ap (λ (xs : List ℕ). get_or xs n 0) (sym read) ∙ found (omega (arith, other)))
