-- Whether a document fits a type, as a test, where names mean tests.
use Rattle.std.proofs.Common.{◌≡◌, ◌↔◌, inl, inr, ℕ, zero, suc, ◌<◌, Bool, true, false, not, ◌&&◌, ◌||◌, refl, ap, subst, arith}
use Rattle.std.proofs.lemmas.Bool.{and_parts, and_from, or_left, or_right}
use Rattle.xd_doc.specs.Document.{Document, empty, text, element, join, has_item}
use Rattle.xd_doc.specs.DocumentCode.{breadth}
use Rattle.xd_doc.specs.Classes.{LabelClass, TextClass, class_has}
use Rattle.xd_doc.proofs.Bools.{or_cases}
use Rattle.xd_syntax.specs.Tree.{Tree, Empty, Text, Words, Name, Elem, Seq, Alt, Star, Plus, Opt, Val}
use Rattle.xd_syntax.specs.Fits.{Split}
use Rattle.xd_meaning.specs.FitsWithin.{Repeats, no_turn, one_turn, IsOneText, IsTextIn, IsOneElement}
use Rattle.xd_same_types.specs.Same.{Meaning, FitsAs}
use Rattle.xd_same_types.proofs.Splits.{breadth_less, split_map, rep_map}

-- the set of a test
abbrev pub Passes : (Document → Bool) → Document → Type 0
Passes P d = P d ≡ true

-- ---- documents of two parts
abbrev split_test : (Document → Bool) → (Document → Bool) → Document → Bool
split_test P Q empty = P empty && Q empty
split_test P Q (text s r) = (P empty && Q (text s r)) || split_test (λ a. P (text s a)) Q r
split_test P Q (element l c r) = (P empty && Q (element l c r)) || split_test (λ a. P (element l c a)) Q r

split_holds : (P Q : Document → Bool) (d : Document) → split_test P Q d ≡ true → Split (Passes P) (Passes Q) d
split_holds P Q empty e = let h = and_parts (P empty) (Q empty) e in (empty, empty, refl, h.0, h.1)
split_holds P Q (text s r) e = elim (or_cases (P empty && Q (text s r)) (split_test (λ a. P (text s a)) Q r) e) [
  | inl f ↦ let h = and_parts (P empty) (Q (text s r)) f in (empty, text s r, refl, h.0, h.1)
  | inr f ↦ let h = split_holds (λ a. P (text s a)) Q r f in (text s h.0, h.1, ap (text s) h.2, h.3, h.4)
]
split_holds P Q (element l c r) e = elim (or_cases (P empty && Q (element l c r)) (split_test (λ a. P (element l c a)) Q r) e) [
  | inl f ↦ let h = and_parts (P empty) (Q (element l c r)) f in (empty, element l c r, refl, h.0, h.1)
  | inr f ↦ let h = split_holds (λ a. P (element l c a)) Q r f in (element l c h.0, h.1, ap (element l c) h.2, h.3, h.4)
]

split_joined : (P Q : Document → Bool) (a b : Document) → P a ≡ true → Q b ≡ true → split_test P Q (join a b) ≡ true
split_joined P Q empty empty p q = and_from (P empty) (Q empty) p q
split_joined P Q empty (text s r) p q = or_left (P empty && Q (text s r)) (split_test (λ a. P (text s a)) Q r) (and_from (P empty) (Q (text s r)) p q)
split_joined P Q empty (element l c r) p q = or_left (P empty && Q (element l c r)) (split_test (λ a. P (element l c a)) Q r) (and_from (P empty) (Q (element l c r)) p q)
split_joined P Q (text s a) b p q = or_right (P empty && Q (text s (join a b))) (split_test (λ x. P (text s x)) Q (join a b)) (split_joined (λ x. P (text s x)) Q a b p q)
split_joined P Q (element l c a) b p q = or_right (P empty && Q (element l c (join a b))) (split_test (λ x. P (element l c x)) Q (join a b)) (split_joined (λ x. P (element l c x)) Q a b p q)

split_tested : (P Q : Document → Bool) (d : Document) → Split (Passes P) (Passes Q) d → split_test P Q d ≡ true
split_tested P Q d h = subst (λ x. split_test P Q x ≡ true) h.2 (split_joined P Q h.0 h.1 h.3 h.4)

-- ---- repetitions
abbrev item_test : (Document → Bool) → Document → Bool
item_test P a = has_item a && P a

abbrev turns_test : (Document → Bool) → ℕ → Document → Bool
turns_test P zero d = not (has_item d)
turns_test P (suc n) d = not (has_item d) || split_test (item_test P) (turns_test P n) d

no_item : (P : Document → Type 0) (d : Document) → not (has_item d) ≡ true → Repeats P d
no_item P empty e = no_turn
no_item P (text s r) e = cc
no_item P (element l c r) e = cc

turns_hold : (P : Document → Bool) (n : ℕ) (d : Document) → turns_test P n d ≡ true → Repeats (Passes P) d
turns_hold P zero d e = no_item (Passes P) d e
turns_hold P (suc n) d e = elim (or_cases (not (has_item d)) (split_test (item_test P) (turns_test P n) d) e) [
  | inl f ↦ no_item (Passes P) d f
  | inr f ↦
      let h = split_holds (item_test P) (turns_test P n) d f in
      let i = and_parts (has_item h.0) (P h.0) h.3 in
      one_turn h.0 h.1 h.2 i.0 i.1 (turns_hold P n h.1 h.4)
]

turns_tested : (P : Document → Bool) (n : ℕ) {d : Document} → breadth d < n → Repeats (Passes P) d → turns_test P n d ≡ true
turns_tested P zero l r = absurd (omega arith)
turns_tested P (suc n) l no_turn = refl
turns_tested P (suc n) {d} l (one_turn a b e i p r) =
    let k : breadth b < breadth (join a b) = breadth_less a b i in
    let j : breadth (join a b) ≡ breadth d = ap breadth e in
    let m : breadth b < n = omega arith in
    or_right (not (has_item d)) (split_test (item_test P) (turns_test P n) d)
    (split_tested (item_test P) (turns_test P n) d (a, b, e, and_from (has_item a) (P a) i p, turns_tested P n m r))

abbrev rep_test : (Document → Bool) → Document → Bool
rep_test P d = turns_test P (suc (breadth d)) d

rep_tests : (P : Document → Bool) (d : Document) → (rep_test P d ≡ true) ↔ Repeats (Passes P) d
rep_tests P d = (turns_hold P (suc (breadth d)) d, λ r. let l : breadth d < suc (breadth d) = omega arith in turns_tested P (suc (breadth d)) l r)

-- ---- one item
abbrev text_test : Document → Bool
text_test empty = false
text_test (text s r) = not (has_item r)
text_test (element l c r) = false

abbrev words_test : TextClass → Document → Bool
words_test w empty = false
words_test w (text s r) = not (has_item r) && class_has w s
words_test w (element l c r) = false

abbrev element_test : LabelClass → (Document → Bool) → Document → Bool
element_test k P empty = false
element_test k P (text s r) = false
element_test k P (element l c r) = not (has_item r) && (class_has k l && P c)

none_is : (d : Document) → (not (has_item d) ≡ true) ↔ (d ≡ empty)
none_is empty = (λ e. refl, λ e. refl)
none_is (text s r) = (λ e. absurd (cc), λ e. absurd (cc))
none_is (element l c r) = (λ e. absurd (cc), λ e. absurd (cc))

text_tests : (d : Document) → (text_test d ≡ true) ↔ IsOneText d
text_tests empty = (λ e. absurd (cc), λ f. absurd f)
text_tests (text s r) = none_is r
text_tests (element l c r) = (λ e. absurd (cc), λ f. absurd f)

words_tests : (w : TextClass) (d : Document) → (words_test w d ≡ true) ↔ IsTextIn w d
words_tests w empty = (λ e. absurd (cc), λ f. absurd f)
words_tests w (text s r) = (
  λ e. let h = and_parts (not (has_item r)) (class_has w s) e in ((none_is r).0 h.0, h.1),
  λ f. and_from (not (has_item r)) (class_has w s) ((none_is r).1 f.0) f.1,
)
words_tests w (element l c r) = (λ e. absurd (cc), λ f. absurd f)

element_tests : (k : LabelClass) (P : Document → Bool) (Q : Document → Type 0) → ((d : Document) → (P d ≡ true) ↔ Q d) → (d : Document) → (element_test k P d ≡ true) ↔ IsOneElement k Q d
element_tests k P Q h empty = (λ e. absurd (cc), λ f. absurd f)
element_tests k P Q h (text s r) = (λ e. absurd (cc), λ f. absurd f)
element_tests k P Q h (element l c r) = (
  λ e. let i = and_parts (not (has_item r)) (class_has k l && P c) e in let j = and_parts (class_has k l) (P c) i.1 in ((none_is r).0 i.0, j.0, (h c).0 j.1),
  λ f. and_from (not (has_item r)) (class_has k l && P c) ((none_is r).1 f.0) (and_from (class_has k l) (P c) f.1 ((h c).1 f.2)),
)

-- ---- types
abbrev pub fit_test : Meaning → Tree → Document → Bool
fit_test N Empty d = not (has_item d)
fit_test N Text d = text_test d
fit_test N (Words w) d = words_test w d
fit_test N (Name x) d = N x d
fit_test N (Elem k T) d = element_test k (fit_test N T) d
fit_test N (Seq T U) d = split_test (fit_test N T) (fit_test N U) d
fit_test N (Alt T U) d = fit_test N T d || fit_test N U d
fit_test N (Star T) d = rep_test (fit_test N T) d
fit_test N (Plus T) d = split_test (fit_test N T) (rep_test (fit_test N T)) d
fit_test N (Opt T) d = not (has_item d) || fit_test N T d
fit_test N (Val x T) d = fit_test N T d

-- the test holds of just the documents that fit
pub fit_tests : (N : Meaning) (T : Tree) (d : Document) → (fit_test N T d ≡ true) ↔ FitsAs N T d
fit_tests N Empty d = none_is d
fit_tests N Text d = text_tests d
fit_tests N (Words w) d = words_tests w d
fit_tests N (Name x) d = (λ e. e, λ f. f)
fit_tests N (Elem k T) d = element_tests k (fit_test N T) (FitsAs N T) (fit_tests N T) d
fit_tests N (Seq T U) d =
    let P = fit_test N T in
    let Q = fit_test N U in (
      λ e. split_map (Passes P) (Passes Q) (FitsAs N T) (FitsAs N U) (λ a. (fit_tests N T a).0) (λ b. (fit_tests N U b).0) d (split_holds P Q d e),
      λ f. split_tested P Q d (split_map (FitsAs N T) (FitsAs N U) (Passes P) (Passes Q) (λ a. (fit_tests N T a).1) (λ b. (fit_tests N U b).1) d f),
    )
fit_tests N (Alt T U) d = (
  λ e. elim (or_cases (fit_test N T d) (fit_test N U d) e) [ inl f ↦ inl ((fit_tests N T d).0 f) | inr f ↦ inr ((fit_tests N U d).0 f) ],
  λ f. elim f [ inl g ↦ or_left (fit_test N T d) (fit_test N U d) ((fit_tests N T d).1 g) | inr g ↦ or_right (fit_test N T d) (fit_test N U d) ((fit_tests N U d).1 g) ],
)
fit_tests N (Star T) d =
    let P = fit_test N T in (
      λ e. rep_map (Passes P) (FitsAs N T) (λ a. (fit_tests N T a).0) d ((rep_tests P d).0 e),
      λ f. (rep_tests P d).1 (rep_map (FitsAs N T) (Passes P) (λ a. (fit_tests N T a).1) d f),
    )
fit_tests N (Plus T) d =
    let P = fit_test N T in
    let R = rep_test P in (
      λ e. split_map (Passes P) (Passes R) (FitsAs N T) (Repeats (FitsAs N T)) (λ a. (fit_tests N T a).0) (λ b g. rep_map (Passes P) (FitsAs N T) (λ a. (fit_tests N T a).0) b ((rep_tests P b).0 g)) d (split_holds P R d e),
      λ f. split_tested P R d (split_map (FitsAs N T) (Repeats (FitsAs N T)) (Passes P) (Passes R) (λ a. (fit_tests N T a).1) (λ b g. (rep_tests P b).1 (rep_map (FitsAs N T) (Passes P) (λ a. (fit_tests N T a).1) b g)) d f),
    )
fit_tests N (Opt T) d = (
  λ e. elim (or_cases (not (has_item d)) (fit_test N T d) e) [ inl f ↦ inl ((none_is d).0 f) | inr f ↦ inr ((fit_tests N T d).0 f) ],
  λ f. elim f [ inl g ↦ or_left (not (has_item d)) (fit_test N T d) ((none_is d).1 g) | inr g ↦ or_right (not (has_item d)) (fit_test N T d) ((fit_tests N T d).1 g) ],
)
fit_tests N (Val x T) d = fit_tests N T d
