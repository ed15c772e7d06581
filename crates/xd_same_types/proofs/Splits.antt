-- Laws of documents of two parts, and of repetition.
use Rattle.std.proofs.Common.{◌≡◌, ◌⊎◌, inl, inr, true, refl, sym, ap, ◌∙◌, subst, ◌<◌, ◌≤◌, arith}
use Rattle.xd_doc.specs.Document.{Document, empty, text, element, join, has_item}
use Rattle.xd_doc.specs.DocumentCode.{breadth}
use Rattle.xd_doc.proofs.Joins.{join_empty-right, join_assoc}
use Rattle.xd_syntax.specs.Fits.{Split}
use Rattle.xd_meaning.specs.FitsWithin.{Repeats, no_turn, one_turn}

-- it is the empty document
abbrev pub IsNone : Document → Type 0
IsNone d = d ≡ empty

-- what is in the first set is in the second
abbrev pub Within : (Document → Type 0) → (Document → Type 0) → Type 0
Within P Q = (d : Document) → P d → Q d

pub split_map : (P Q R S : Document → Type 0) → Within P R → Within Q S → Within (Split P Q) (Split R S)
split_map P Q R S f g d h = (h.0, h.1, h.2, f h.0 h.3, g h.1 h.4)

pub split_left : (P Q R : Document → Type 0) → Within (Split P (Split Q R)) (Split (Split P Q) R)
split_left P Q R d h =
    let s = h.4 in
    (join h.0 s.0, s.1, join_assoc h.0 s.0 s.1 ∙ ap (join h.0) s.2 ∙ h.2, (h.0, s.0, refl, h.3, s.3), s.4)

pub split_right : (P Q R : Document → Type 0) → Within (Split (Split P Q) R) (Split P (Split Q R))
split_right P Q R d h =
    let s = h.3 in
    (s.0, join s.1 h.1, sym (join_assoc s.0 s.1 h.1) ∙ ap (λ x. join x h.1) s.2 ∙ h.2, s.3, (s.1, h.1, refl, s.4, h.4))

pub none_then : (P : Document → Type 0) → Within P (Split IsNone P)
none_then P d p = (empty, d, refl, refl, p)

pub then_only : (P : Document → Type 0) → Within (Split IsNone P) P
then_only P d h = let e : h.1 ≡ d = sym (ap (λ x. join x h.1) h.3) ∙ h.2 in subst P e h.4

pub then_none : (P : Document → Type 0) → Within P (Split P IsNone)
then_none P d p = (d, empty, join_empty-right d, p, refl)

pub first_only : (P : Document → Type 0) → Within (Split P IsNone) P
first_only P d h = let e : h.0 ≡ d = sym (join_empty-right h.0) ∙ ap (join h.0) (sym h.4) ∙ h.2 in subst P e h.3

pub item_first : (a b : Document) → has_item a ≡ true → has_item (join a b) ≡ true
item_first empty b h = cc
item_first (text s a) b h = refl
item_first (element l c a) b h = refl

pub item_second : (a b : Document) → has_item b ≡ true → has_item (join a b) ≡ true
item_second empty b h = h
item_second (text s a) b h = refl
item_second (element l c a) b h = refl

breadth_most : (a b : Document) → breadth b ≤ breadth (join a b)
breadth_most empty b = omega arith
breadth_most (text s a) b = let i = breadth_most a b in omega arith
breadth_most (element l c a) b = let i = breadth_most a b in omega arith

pub breadth_less : (a b : Document) → has_item a ≡ true → breadth b < breadth (join a b)
breadth_less empty b h = cc
breadth_less (text s a) b h = let i = breadth_most a b in omega arith
breadth_less (element l c a) b h = let i = breadth_most a b in omega arith

pub rep_join : (P : Document → Type 0) {a b : Document} → Repeats P a → Repeats P b → Repeats P (join a b)
rep_join P no_turn s = s
rep_join P {b = b} (one_turn {d} p q e h pp r) s =
    one_turn p (join q b) (sym (join_assoc p q b) ∙ ap (λ x. join x b) e) h pp (rep_join P r s)

pub rep_one : (P : Document → Type 0) → Within P (Repeats P)
rep_one P empty p = no_turn
rep_one P (text s r) p = one_turn (text s r) empty (join_empty-right (text s r)) refl p no_turn
rep_one P (element l c r) p = one_turn (element l c r) empty (join_empty-right (element l c r)) refl p no_turn

pub rep_bind : (P Q : Document → Type 0) → Within P (Repeats Q) → {d : Document} → Repeats P d → Repeats Q d
rep_bind P Q f no_turn = no_turn
rep_bind P Q f (one_turn a b e h p r) = subst (Repeats Q) e (rep_join Q (f a p) (rep_bind P Q f r))

pub rep_map : (P Q : Document → Type 0) → Within P Q → Within (Repeats P) (Repeats Q)
rep_map P Q f d r = rep_bind P Q (λ a p. rep_one Q a (f a p)) r

-- `x*,x` and `x,x*`
rep_then : (P : Document → Type 0) {a : Document} → Repeats P a → (b : Document) → P b → Split P (Repeats P) (join a b)
rep_then P no_turn b pb = (b, empty, join_empty-right b, pb, no_turn)
rep_then P (one_turn p q e h pp r) b pb =
    (p, join q b, sym (join_assoc p q b) ∙ ap (λ x. join x b) e, pp, rep_join P r (rep_one P b pb))

pub front_plus : (P : Document → Type 0) → Within (Split (Repeats P) P) (Split P (Repeats P))
front_plus P d h = subst (Split P (Repeats P)) h.2 (rep_then P h.3 h.1 h.4)

then_rep : (P : Document → Type 0) {b : Document} → Repeats P b → (a : Document) → P a → Split (Repeats P) P (join a b)
then_rep P no_turn a pa = (empty, a, sym (join_empty-right a), no_turn, pa)
then_rep P (one_turn p q e h pp r) a pa =
    let i = then_rep P r p pp in
    (join a i.0, i.1, join_assoc a i.0 i.1 ∙ ap (join a) (i.2 ∙ e), rep_join P (rep_one P a pa) i.3, i.4)

pub back_plus : (P : Document → Type 0) → Within (Split P (Repeats P)) (Split (Repeats P) P)
back_plus P d h = subst (Split (Repeats P) P) h.2 (then_rep P h.4 h.0 h.3)

-- `x*,x*`
pub twice : (P : Document → Type 0) → Within (Split (Repeats P) (Repeats P)) (Repeats P)
twice P d h = subst (Repeats P) h.2 (rep_join P h.3 h.4)

pub once_more : (P : Document → Type 0) → Within (Repeats P) (Split (Repeats P) (Repeats P))
once_more P d r = (empty, d, refl, no_turn, r)

-- `x+` is in `x*`
pub plus_star : (P : Document → Type 0) → Within (Split P (Repeats P)) (Repeats P)
plus_star P d h = subst (Repeats P) h.2 (rep_join P (rep_one P h.0 h.3) h.4)

-- a repetition is nothing, or begins
pub star_cases : (P : Document → Type 0) {d : Document} → Repeats P d → (d ≡ empty) ⊎ Split P (Repeats P) d
star_cases P no_turn = inl refl
star_cases P (one_turn a b e h p r) = inr (a, b, e, p, r)
