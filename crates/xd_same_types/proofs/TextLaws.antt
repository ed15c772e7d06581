-- Laws of types of texts.
use Rattle.std.proofs.Common.{◌≡◌, ◌⊎◌, ◌↔◌, inl, inr, ℕ, ◌+◌, ◌<◌, ◌≤◌, nat_eq, Bool, true, false, not, cond, ◌||◌, refl, sym, ap, ◌∙◌, subst, List, [], ◌∷◌, ◌++◌, take, length, get_or, arith}
use Rattle.std.proofs.lemmas.Bool.Decides.{nat_tests}
use Rattle.std.specs.Cmp.Lexicographic.{slice_cmp, pointwise}
use Rattle.std.specs.List.Sorted.{IsStrictlySortedBy}
use Rattle.std.specs.Ordering.{nat_cmp}
use Rattle.std.proofs.lemmas.Bool.{or_left, or_right}
use Rattle.xd_doc.specs.Document.{Document, empty, text, element}
use Rattle.xd_doc.specs.Classes.{TextClass, class_has, is_named}
use Rattle.xd_doc.specs.ClassForms.{IsTextClass}
use Rattle.xd_doc.proofs.SortedNames.{same_words}
use Rattle.xd_doc.proofs.Bools.{or_cases}
use Rattle.xd_syntax.specs.Table.{IsWordsNode}
use Rattle.xd_syntax.specs.Tree.{Tree, Text, Words, Alt}
use Rattle.xd_same_types.specs.Same.{Meaning, FitsAs, MeansSame, IsTextOf, IsTextsType}
use Rattle.xd_same_types.proofs.Tops.{and_same}
use Rattle.xd_same_types.proofs.Ids.{take_read}
use Rattle.xd_same_types.proofs.Facts.{iff_then}

text_map : (h g : List ℕ → Bool) → ((s : List ℕ) → h s ≡ true → g s ≡ true) → (d : Document) → IsTextOf h d → IsTextOf g d
text_map h g f empty i = i
text_map h g f (text s r) i = (i.0, f s i.1)
text_map h g f (element l c r) i = i

pub texts_as : (h g : List ℕ → Bool) (T : Tree) → ((s : List ℕ) → h s ≡ g s) → IsTextsType h T → IsTextsType g T
texts_as h g T e i = record { fits = λ N d. iff_then (i.fits N d) (text_map h g (λ s x. sym (e s) ∙ x) d, text_map g h (λ s x. e s ∙ x) d); tops = i.tops }

pub texts_words : (w : TextClass) → IsTextsType (class_has w) (Words w)
texts_words w = record { fits = λ N d. go N d; tops = λ known. refl }
  where
    go : (N : Meaning) (d : Document) → FitsAs N (Words w) d ↔ IsTextOf (class_has w) d
    go N empty = (λ f. f, λ f. f)
    go N (text s r) = (λ f. f, λ f. f)
    go N (element l c r) = (λ f. f, λ f. f)

pub texts_all : (h : List ℕ → Bool) → ((s : List ℕ) → h s ≡ true) → IsTextsType h Text
texts_all h e = record { fits = λ N d. go N d; tops = λ known. refl }
  where
    go : (N : Meaning) (d : Document) → FitsAs N Text d ↔ IsTextOf h d
    go N empty = (λ f. f, λ f. f)
    go N (text s r) = (λ f. (f, e s), λ f. f.0)
    go N (element l c r) = (λ f. f, λ f. f)

pub texts_alt : (h g : List ℕ → Bool) (T U V : Tree) → IsTextsType h T → IsTextsType g U → MeansSame V (Alt T U) → IsTextsType (λ s. h s || g s) V
texts_alt h g T U V t u m = record { fits = λ N d. iff_then (m.both N d) (to N d, back N d); tops = λ known. m.tops known ∙ and_same (t.tops known) (u.tops known) }
  where
    to : (N : Meaning) (d : Document) → FitsAs N T d ⊎ FitsAs N U d → IsTextOf (λ s. h s || g s) d
    to N d (inl f) = text_map h (λ s. h s || g s) (λ s e. or_left (h s) (g s) e) d ((t.fits N d).0 f)
    to N d (inr f) = text_map g (λ s. h s || g s) (λ s e. or_right (h s) (g s) e) d ((u.fits N d).0 f)

    split : (d : Document) → IsTextOf (λ s. h s || g s) d → IsTextOf h d ⊎ IsTextOf g d
    split empty i = absurd i
    split (text s r) i = by_side (or_cases (h s) (g s) i.1)
      where
        by_side : (h s ≡ true) ⊎ (g s ≡ true) → ((r ≡ empty) × (h s ≡ true)) ⊎ ((r ≡ empty) × (g s ≡ true))
        by_side (inl e) = inl (i.0, e)
        by_side (inr e) = inr (i.0, e)
    split (element l c r) i = absurd i

    back : (N : Meaning) (d : Document) → IsTextOf (λ s. h s || g s) d → FitsAs N T d ⊎ FitsAs N U d
    back N d i = by_side (split d i)
      where
        by_side : IsTextOf h d ⊎ IsTextOf g d → FitsAs N T d ⊎ FitsAs N U d
        by_side (inl f) = inl ((t.fits N d).1 f)
        by_side (inr f) = inr ((u.fits N d).1 f)

-- the names, one after the other
pub named_more : (xs ys : List (List ℕ)) (s : List ℕ) → (is_named xs s || is_named ys s) ≡ is_named (xs ++ ys) s
named_more [] ys s = refl
named_more (x ∷ xs) ys s = or_or (pointwise nat_eq x s) (is_named xs s) (is_named ys s) ∙ ap (λ b. pointwise nat_eq x s || b) (named_more xs ys s)
  where
    or_or : (a b c : Bool) → ((a || b) || c) ≡ (a || (b || c))
    or_or true b c = refl
    or_or false b c = refl

one_sorted : (t : List ℕ) → IsStrictlySortedBy (slice_cmp nat_cmp) (t ∷ [])
unfolding IsStrictlySortedBy
one_sorted t = (tt, tt)

pub zero_when : (n : ℕ) (b : Bool) → b ≡ nat_eq n 0 → b ≡ true → n ≡ 0
zero_when n b e f = let g : nat_eq n 0 ≡ true = sym e ∙ f in grind (arith, nat_tests)

-- a class of one text names that one alone
pub one_word : (w : TextClass) (t : List ℕ) → IsTextClass w → ((s : List ℕ) → is_named w.names s ≡ is_named (t ∷ []) s) → w.except ≡ false → IsWordsNode w
one_word w t v n e =
    let f : w.names ≡ t ∷ [] = same_words w.names (t ∷ []) v.sorted (one_sorted t) n in
    let l : length w.names ≡ 1 = ap length f in
    let m : 1 ≤ length w.names = omega (arith, l) in
    (m, inr l)

pub class_named : (w : TextClass) → w.except ≡ false → (s : List ℕ) → class_has w s ≡ is_named w.names s
class_named w e s = ap (λ b. cond b (not (is_named w.names s)) (is_named w.names s)) e

pub named_same : (names items : List (List ℕ)) (t : List ℕ) → items ≡ t ∷ [] → ((s : List ℕ) → is_named names s ≡ is_named items s) → (s : List ℕ) → is_named names s ≡ is_named (t ∷ []) s
named_same names items t e n s = n s ∙ ap (λ xs. is_named xs s) e

pub all_words : (w : TextClass) → w.except ≡ true → length w.names ≡ 0 → (s : List ℕ) → class_has w s ≡ true
all_words w e l s = ap (λ b. cond b (not (is_named w.names s)) (is_named w.names s)) e ∙ none w.names l
  where
    none : (xs : List (List ℕ)) → length xs ≡ 0 → not (is_named xs s) ≡ true
    none [] m = refl
    none (x ∷ xs) m = absurd (omega (arith, m))

first_one : (xs : List (List ℕ)) (x : List ℕ) → 0 < length xs → x ≡ get_or xs 0 x → take 1 xs ≡ x ∷ []
first_one [] x l e = absurd (omega (arith, l))
first_one (y ∷ ys) x l e = ap (λ z. z ∷ []) (sym e)

pub texts_first : (xs : List (List ℕ)) (x : List ℕ) (T : Tree) → 0 < length xs → x ≡ get_or xs 0 x → IsTextsType (is_named (x ∷ [])) T → IsTextsType (is_named (take 1 xs)) T
texts_first xs x T l e t = subst (λ ys. IsTextsType (is_named ys) T) (sym (first_one xs x l e)) t

pub texts_more : (xs : List (List ℕ)) (k : ℕ) (x : List ℕ) (T U V : Tree) → k < length xs → x ≡ get_or xs k x → IsTextsType (is_named (take k xs)) T → IsTextsType (is_named (x ∷ [])) U → MeansSame V (Alt T U) → IsTextsType (is_named (take (k + 1) xs)) V
texts_more xs k x T U V l e t u m =
    subst (λ ys. IsTextsType (is_named ys) V) (sym (take_read xs k x l e))
    (texts_as (λ s. is_named (take k xs) s || is_named (x ∷ []) s) (is_named (take k xs ++ x ∷ [])) V (λ s. named_more (take k xs) (x ∷ []) s)
    (texts_alt (is_named (take k xs)) (is_named (x ∷ [])) T U V t u m))
