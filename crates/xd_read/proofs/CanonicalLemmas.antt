-- The canonical text of a document is UTF-8.
use Rattle.std.proofs.Common.{◌≡◌, ℕ, zero, suc, ◌+◌, ◌<◌, List, [], ◌∷◌, ◌++◌, length, get_or, true, refl, sym, subst, arith, append_assoc, length-append, IsUtf8}
use Rattle.std.specs.Prelude.{nat_eq, ◌&&◌}
use Rattle.std.specs.Str.{is_utf8, IsCharBoundary}
use Rattle.std.proofs.Math.Seq.{take-append_seam, drop-append-add}
use Rattle.std.proofs.lemmas.Str.{IsUtf8-append, IsUtf8-nil, IsUtf8-take, IsUtf8-drop, IsUtf8-from_ascii, IsUtf8-from_is_utf8, IsCharBoundary-after_ascii}
use Rattle.std.proofs.lemmas.Bool.Decides.{nat_tests}
use Rattle.xd_doc.specs.Word.{is_word, is_word_start, is_word_part, are_word_parts}
use Rattle.xd_doc.specs.Document.{Document, empty, text, element, is_proper, escaped_all, comma_before, items_text, canonical_text}
use Rattle.std.proofs.lemmas.Bool.{and_parts, cond_both}
use Rattle.xd_lex.proofs.Fronts.{word_ascii, begins_ascii}

at_seam : (pre : List ℕ) (c : ℕ) (cs : List ℕ) → get_or (pre ++ c ∷ cs) (length pre) 0 ≡ c
at_seam [] c cs = refl
at_seam (x ∷ pre) c cs = at_seam pre c cs

boundary_before : (pre : List ℕ) (c : ℕ) (cs : List ℕ) → c < 128 → IsCharBoundary (pre ++ c ∷ cs) (length pre)
boundary_before pre c cs lt = (omega (arith, length-append pre (c ∷ cs)), λ h k. absurd (omega (arith, at_seam pre c cs)))

-- a text is cut before and after an ASCII character
before_ascii : (pre : List ℕ) (c : ℕ) (cs : List ℕ) → c < 128 → IsUtf8 (pre ++ c ∷ cs) → IsUtf8 pre
before_ascii pre c cs lt u = subst IsUtf8 (take-append_seam pre (c ∷ cs)) (IsUtf8-take (pre ++ c ∷ cs) (length pre) u (boundary_before pre c cs lt))

behind_ascii : (pre : List ℕ) (c : ℕ) (cs : List ℕ) → c < 128 → IsUtf8 (pre ++ c ∷ cs) → IsUtf8 cs
behind_ascii pre c cs lt u =
    let b : get_or (pre ++ c ∷ cs) (length pre) 0 < 128 = omega (arith, at_seam pre c cs) in
    let l : length pre < length (pre ++ c ∷ cs) = omega (arith, length-append pre (c ∷ cs)) in
    subst IsUtf8 (drop-append-add pre (c ∷ cs) 1) (IsUtf8-drop (pre ++ c ∷ cs) (length pre + 1) u (IsCharBoundary-after_ascii (pre ++ c ∷ cs) (length pre) u l b))

ascii_one : (c : ℕ) → c < 128 → IsUtf8 (c ∷ [])
ascii_one c h = IsUtf8-from_ascii (c ∷ []) (λ i. at c h i)
  where
    at : (c : ℕ) → c < 128 → (i : ℕ) → get_or (c ∷ []) i 0 < 128
    at c h zero = h
    at c h (suc i) = omega arith

pub cons_ascii : (c : ℕ) (cs : List ℕ) → c < 128 → IsUtf8 cs → IsUtf8 (c ∷ cs)
cons_ascii c cs h u = IsUtf8-append (c ∷ []) cs (ascii_one c h) u

is_ascii_at : (c k : ℕ) → k < 128 → nat_eq c k ≡ true → c < 128
is_ascii_at c k lt h = grind (arith, nat_tests)

-- an escape after a text and before another
escape_between : (pre : List ℕ) (c : ℕ) (cs : List ℕ) (a b : ℕ) (rest : List ℕ) → c < 128 → a < 128 → b < 128 → IsUtf8 (pre ++ c ∷ cs) → IsUtf8 rest → IsUtf8 (pre ++ ((a ∷ b ∷ []) ++ rest))
escape_between pre c cs a b rest lc la lb u r = IsUtf8-append pre ((a ∷ b ∷ []) ++ rest) (before_ascii pre c cs lc u) (cons_ascii a (b ∷ rest) la (cons_ascii b rest lb r))

pub escaped_all_utf8 : (pre s : List ℕ) → IsUtf8 (pre ++ s) → IsUtf8 (pre ++ escaped_all s)
escaped_all_utf8 pre [] u = u
escaped_all_utf8 pre (c ∷ cs) u =
    let P : List ℕ → Type 0 = λ z. IsUtf8 (pre ++ (z ++ escaped_all cs)) in
    let behind = λ (h : c < 128). escaped_all_utf8 [] cs (behind_ascii pre c cs h u) in
    let pair = λ (b : ℕ) (h : c < 128) (k : b < 128). escape_between pre c cs 92 b (escaped_all cs) h (omega arith) k u (behind h) in
    cond_both (nat_eq c 34) _ _ P (λ h. pair 34 (is_ascii_at c 34 (omega arith) h) (omega arith)) (λ _.
    cond_both (nat_eq c 92) _ _ P (λ h. pair 92 (is_ascii_at c 92 (omega arith) h) (omega arith)) (λ _.
    cond_both (nat_eq c 10) _ _ P (λ h. pair 110 (is_ascii_at c 10 (omega arith) h) (omega arith)) (λ _.
    cond_both (nat_eq c 9) _ _ P (λ h. pair 116 (is_ascii_at c 9 (omega arith) h) (omega arith)) (λ _.
    subst IsUtf8 (append_assoc pre (c ∷ []) (escaped_all cs)) (escaped_all_utf8 (pre ++ c ∷ []) cs (subst IsUtf8 (sym (append_assoc pre (c ∷ []) cs)) u))))))

parts_utf8 : (cs : List ℕ) → are_word_parts cs ≡ true → IsUtf8 cs
parts_utf8 [] h = IsUtf8-nil
parts_utf8 (c ∷ cs) h = cons_ascii c cs (word_ascii c (and_parts (is_word_part c) (are_word_parts cs) h).0) (parts_utf8 cs (and_parts (is_word_part c) (are_word_parts cs) h).1)

pub word_utf8 : (l : List ℕ) → is_word l ≡ true → IsUtf8 l
word_utf8 [] h = IsUtf8-nil
word_utf8 (c ∷ cs) h = cons_ascii c cs (begins_ascii c (and_parts (is_word_start c) (are_word_parts cs) h).0) (parts_utf8 cs (and_parts (is_word_start c) (are_word_parts cs) h).1)

comma_utf8 : (d : Document) → IsUtf8 (comma_before d)
comma_utf8 empty = IsUtf8-nil
comma_utf8 (text s r) = ascii_one 44 (omega arith)
comma_utf8 (element l c r) = ascii_one 44 (omega arith)

items_utf8 : (d : Document) → is_proper d ≡ true → IsUtf8 (items_text d)
items_utf8 empty h = IsUtf8-nil
items_utf8 (text s r) h =
    let s_in = IsUtf8-from_is_utf8 s (and_parts (is_utf8 s) (is_proper r) h).0 in
    let quoted = cons_ascii 34 (escaped_all s ++ 34 ∷ []) (omega arith) (IsUtf8-append (escaped_all s) (34 ∷ []) (escaped_all_utf8 [] s s_in) (ascii_one 34 (omega arith))) in
    IsUtf8-append (34 ∷ escaped_all s ++ 34 ∷ []) (comma_before r ++ items_text r) quoted (IsUtf8-append (comma_before r) (items_text r) (comma_utf8 r) (items_utf8 r (and_parts (is_utf8 s) (is_proper r) h).1))
items_utf8 (element l c r) h =
    let both = (and_parts (is_word l) (is_proper c && is_proper r) h).1 in
    let label = word_utf8 l (and_parts (is_word l) (is_proper c && is_proper r) h).0 in
    let content = cons_ascii 91 (items_text c) (omega arith) (items_utf8 c (and_parts (is_proper c) (is_proper r) both).0) in
    IsUtf8-append (l ++ 91 ∷ items_text c ++ 93 ∷ []) (comma_before r ++ items_text r) (IsUtf8-append (l ++ 91 ∷ items_text c) (93 ∷ []) (IsUtf8-append l (91 ∷ items_text c) label content) (ascii_one 93 (omega arith)))
    (IsUtf8-append (comma_before r) (items_text r) (comma_utf8 r) (items_utf8 r (and_parts (is_proper c) (is_proper r) both).1))

pub canonical_text_utf8 : (d : Document) → is_proper d ≡ true → IsUtf8 (canonical_text d)
canonical_text_utf8 empty h = cons_ascii 40 (41 ∷ []) (omega arith) (ascii_one 41 (omega arith))
canonical_text_utf8 (text s r) h = items_utf8 (text s r) h
canonical_text_utf8 (element l c r) h = items_utf8 (element l c r) h
