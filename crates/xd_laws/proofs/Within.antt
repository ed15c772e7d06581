-- the family and the relation by unfoldings are the same
use Rattle.std.proofs.Common.{◌≡◌, ℕ, zero, suc, ◌+◌, ◌≤◌, inl, inr, refl, sym, arith, subst, List, Option, Some, None}
use Rattle.xd_doc.specs.Document.{Document, empty, text, element}
use Rattle.xd_doc.specs.Classes.{LabelClass, TextClass}
use Rattle.xd_syntax.specs.Tree.{Tree, Empty, Text, Words, Name, Elem, Seq, Alt, Star, Plus, Opt, Val, Definitions, body}
use Rattle.xd_syntax.specs.Fits.{Fits}
use Rattle.xd_meaning.specs.FitsWithin.{IsTextIn, Repeats, no_turn, one_turn, IsOneElement, fits_by, fits_definition, fits_name_within, FitsWithin}
use Rattle.xd_syntax.specs.Fits as F
use Rattle.xd_laws.proofs.FitsLaws.{text_fits}

Meaning : Type 1
Meaning = List ℕ → Document → Type 0

rep_map : (P Q : Document → Type 0) → ((d : Document) → P d → Q d) → {d : Document} → Repeats P d → Repeats Q d
rep_map P Q h no_turn = no_turn
rep_map P Q h (one_turn a b e s p r) = one_turn a b e s (h a p) (rep_map P Q h r)

one_elem : (c : LabelClass) (P Q : Document → Type 0) → ((d : Document) → P d → Q d) → (d : Document) → IsOneElement c P d → IsOneElement c Q d
one_elem c P Q h empty p = p
one_elem c P Q h (text s d) p = p
one_elem c P Q h (element l k d) p = (p.0, p.1, h k p.2)

fits_mono : (N M : List ℕ → Document → Type 0) → ((x : List ℕ) (d : Document) → N x d → M x d) → (T : Tree) (d : Document) → fits_by N T d → fits_by M T d
fits_mono N M h Empty d f = f
fits_mono N M h Text d f = f
fits_mono N M h (Words w) d f = f
fits_mono N M h (Name x) d f = h x d f
fits_mono N M h (Elem c T) d f = one_elem c (fits_by N T) (fits_by M T) (λ k. fits_mono N M h T k) d f
fits_mono N M h (Seq T U) d f = (f.0, f.1, f.2, fits_mono N M h T f.0 f.3, fits_mono N M h U f.1 f.4)
fits_mono N M h (Alt T U) d (inl f) = inl (fits_mono N M h T d f)
fits_mono N M h (Alt T U) d (inr f) = inr (fits_mono N M h U d f)
fits_mono N M h (Star T) d f = rep_map (fits_by N T) (fits_by M T) (λ k. fits_mono N M h T k) f
fits_mono N M h (Plus T) d f = (f.0, f.1, f.2, fits_mono N M h T f.0 f.3, rep_map (fits_by N T) (fits_by M T) (λ k. fits_mono N M h T k) f.4)
fits_mono N M h (Opt T) d (inl e) = inl e
fits_mono N M h (Opt T) d (inr f) = inr (fits_mono N M h T d f)
fits_mono N M h (Val x T) d f = fits_mono N M h T d f

body_mono : (N M : Tree → Document → Type 0) → ((T : Tree) (d : Document) → N T d → M T d) → (o : Option Tree) (d : Document) → fits_definition N o d → fits_definition M o d
body_mono N M h None d f = f
body_mono N M h (Some T) d f = h T d f

names_mono : (E : Definitions) (n m : ℕ) → n ≤ m → (x : List ℕ) (d : Document) → fits_name_within E n x d → fits_name_within E m x d
names_mono E zero m l x d f = absurd f
names_mono E (suc n) zero l x d f = absurd (omega arith)
names_mono E (suc n) (suc m) l x d f =
    body_mono (fits_by (fits_name_within E n)) (fits_by (fits_name_within E m))
    (fits_mono (fits_name_within E n) (fits_name_within E m) (λ y k. names_mono E n m (omega arith) y k)) (body E x) d f

up : (E : Definitions) (T : Tree) (d : Document) (n m : ℕ) → n ≤ m → FitsWithin E n T d → FitsWithin E m T d
up E T d n m l f = fits_mono (fits_name_within E n) (fits_name_within E m) (λ x k. names_mono E n m l x k) T d f

abbrev WithinSome : Definitions → Tree → Document → Type 0
WithinSome E T d = (n : ℕ) × FitsWithin E n T d

-- from the family to some number of unfoldings
pub to_within : (E : Definitions) {T : Tree} {d : Document} → Fits E T d → WithinSome E T d
to_within E F.fits_empty = (0, refl)
to_within E F.fits_text = (0, refl)
to_within E (F.fits_words h) = (0, (refl, h))
to_within E (F.fits_elem t f) = let a = to_within E f in (a.0, (refl, t, a.1))
to_within E (F.fits_name {x} {T} {d} e f) = let a = to_within E f in
    (suc a.0, subst (λ o. fits_definition (fits_by (fits_name_within E a.0)) o d) (sym e) a.1)
to_within E (F.fits_seq {T} {U} a b e f g) = let p = to_within E f in let q = to_within E g in
    (p.0 + q.0, (a, b, e, up E T a p.0 (p.0 + q.0) (omega arith) p.1, up E U b q.0 (p.0 + q.0) (omega arith) q.1))
to_within E (F.fits_left f) = let a = to_within E f in (a.0, inl a.1)
to_within E (F.fits_right f) = let a = to_within E f in (a.0, inr a.1)
to_within E F.fits_no_turn = (0, no_turn)
to_within E (F.fits_turn {T} a b e s f g) = let p = to_within E f in let q = to_within E g in
    (p.0 + q.0, one_turn a b e s (up E T a p.0 (p.0 + q.0) (omega arith) p.1) (up E (Star T) b q.0 (p.0 + q.0) (omega arith) q.1))
to_within E (F.fits_plus {T} a b e f g) = let p = to_within E f in let q = to_within E g in
    (p.0 + q.0, (a, b, e, up E T a p.0 (p.0 + q.0) (omega arith) p.1, up E (Star T) b q.0 (p.0 + q.0) (omega arith) q.1))
to_within E F.fits_absent = (0, inl refl)
to_within E (F.fits_present f) = let a = to_within E f in (a.0, inr a.1)
to_within E (F.fits_val f) = to_within E f

-- and back
rep_star : (E : Definitions) (T : Tree) (P : Document → Type 0) → ((d : Document) → P d → Fits E T d) → {d : Document} → Repeats P d → Fits E (Star T) d
rep_star E T P h no_turn = F.fits_no_turn
rep_star E T P h (one_turn a b e s p r) = F.fits_turn a b e s (h a p) (rep_star E T P h r)

elem_fits : (E : Definitions) (c : LabelClass) (T : Tree) (P : Document → Type 0) → ((d : Document) → P d → Fits E T d) → (d : Document) → IsOneElement c P d → Fits E (Elem c T) d
elem_fits E c T P h empty p = absurd p
elem_fits E c T P h (text s d) p = absurd p
elem_fits E c T P h (element l k d) p = subst (λ r. Fits E (Elem c T) (element l k r)) (sym p.0) (F.fits_elem p.1 (h k p.2))

pub words_fit : (E : Definitions) (w : TextClass) (d : Document) → IsTextIn w d → Fits E (Words w) d
words_fit E w empty p = absurd p
words_fit E w (text s d) p = subst (λ r. Fits E (Words w) (text s r)) (sym p.0) (F.fits_words p.1)
words_fit E w (element l k d) p = absurd p

by_fits : (E : Definitions) (N : List ℕ → Document → Type 0) → ((x : List ℕ) (d : Document) → N x d → Fits E (Name x) d) → (T : Tree) (d : Document) → fits_by N T d → Fits E T d
by_fits E N h Empty d f = subst (Fits E Empty) (sym f) F.fits_empty
by_fits E N h Text d f = text_fits E d f
by_fits E N h (Words w) d f = words_fit E w d f
by_fits E N h (Name x) d f = h x d f
by_fits E N h (Elem c T) d f = elem_fits E c T (fits_by N T) (λ k. by_fits E N h T k) d f
by_fits E N h (Seq T U) d f = F.fits_seq f.0 f.1 f.2 (by_fits E N h T f.0 f.3) (by_fits E N h U f.1 f.4)
by_fits E N h (Alt T U) d (inl f) = F.fits_left (by_fits E N h T d f)
by_fits E N h (Alt T U) d (inr f) = F.fits_right (by_fits E N h U d f)
by_fits E N h (Star T) d f = rep_star E T (fits_by N T) (λ k. by_fits E N h T k) f
by_fits E N h (Plus T) d f = F.fits_plus f.0 f.1 f.2 (by_fits E N h T f.0 f.3) (rep_star E T (fits_by N T) (λ k. by_fits E N h T k) f.4)
by_fits E N h (Opt T) d (inl e) = subst (Fits E (Opt T)) (sym e) F.fits_absent
by_fits E N h (Opt T) d (inr f) = F.fits_present (by_fits E N h T d f)
by_fits E N h (Val x T) d f = F.fits_val (by_fits E N h T d f)

body_fits : (E : Definitions) (x : List ℕ) (N : Tree → Document → Type 0) → ((T : Tree) (d : Document) → N T d → Fits E T d) → (o : Option Tree) → body E x ≡ o → (d : Document) → fits_definition N o d → Fits E (Name x) d
body_fits E x N h None e d f = absurd f
body_fits E x N h (Some T) e d f = F.fits_name e (h T d f)

names_fits : (E : Definitions) (n : ℕ) (x : List ℕ) (d : Document) → fits_name_within E n x d → Fits E (Name x) d
names_fits E zero x d f = absurd f
names_fits E (suc n) x d f =
    body_fits E x (fits_by (fits_name_within E n)) (by_fits E (fits_name_within E n) (names_fits E n)) (body E x) refl d f

pub from_within : (E : Definitions) (T : Tree) (d : Document) → WithinSome E T d → Fits E T d
from_within E T d f = by_fits E (fits_name_within E f.0) (names_fits E f.0) T d f.1
