-- Where each name means what its definition does, and no definition uses a name outside of every
-- label but `Any`, the documents that fit a type are those that fit it where names have these
-- meanings.
use Rattle.std.proofs.Common.{◌≡◌, inl, inr, ℕ, zero, suc, ◌<◌, arith, true, refl, sym, ap, subst, List, [], Some}
use Rattle.xd_doc.specs.Document.{Document, empty, text, element, join, size}
use Rattle.xd_doc.specs.Classes.{LabelClass}
use Rattle.xd_doc.proofs.Bools.{and_left, and_right}
use Rattle.xd_syntax.specs.Words.{has_word}
use Rattle.xd_syntax.specs.Tree.{Tree, Empty, Text, Words, Name, Elem, Seq, Alt, Star, Plus, Opt, Val, Definitions, body}
use Rattle.xd_syntax.specs.Fits.{Fits, Split}
use Rattle.xd_syntax.specs.Fits as F
use Rattle.xd_meaning.specs.FitsWithin.{Repeats, no_turn, one_turn}
use Rattle.xd_laws.proofs.FitsLaws.{text_fits}
use Rattle.xd_laws.proofs.Unfoldings.{size_join}
use Rattle.xd_laws.proofs.Within.{words_fit}
use Rattle.xd_same_types.specs.Same.{Meaning, FitsAs, tops_only}
use Rattle.xd_same_types.specs.Names.{IsMeaning, AreGuarded, NamesSettle}

-- at most
pub as_meant : (E : Definitions) (N : Meaning) → IsMeaning E N → {T : Tree} {d : Document} → Fits E T d → FitsAs N T d
as_meant E N m F.fits_empty = refl
as_meant E N m F.fits_text = refl
as_meant E N m (F.fits_words h) = (refl, h)
as_meant E N m (F.fits_elem t f) = (refl, t, as_meant E N m f)
as_meant E N m (F.fits_name {x} {T} {d} e f) = m.least x T d e (as_meant E N m f)
as_meant E N m (F.fits_seq a b e f g) = (a, b, e, as_meant E N m f, as_meant E N m g)
as_meant E N m (F.fits_left f) = inl (as_meant E N m f)
as_meant E N m (F.fits_right f) = inr (as_meant E N m f)
as_meant E N m F.fits_no_turn = no_turn
as_meant E N m (F.fits_turn a b e s f g) = one_turn a b e s (as_meant E N m f) (as_meant E N m g)
as_meant E N m (F.fits_plus a b e f g) = (a, b, e, as_meant E N m f, as_meant E N m g)
as_meant E N m F.fits_absent = inl refl
as_meant E N m (F.fits_present f) = inr (as_meant E N m f)
as_meant E N m (F.fits_val f) = as_meant E N m f

-- documents of fewer items than n that fit where names have meanings fit
abbrev FitBelow : Definitions → Meaning → ℕ → Tree → Type 0
FitBelow E N n T = (d : Document) → size d < n → FitsAs N T d → Fits E T d

rep_below : (E : Definitions) (N : Meaning) (n : ℕ) (T : Tree) → FitBelow E N n T → {d : Document} → size d < n → Repeats (FitsAs N T) d → Fits E (Star T) d
rep_below E N n T h l no_turn = F.fits_no_turn
rep_below E N n T h {d} l (one_turn a b e s p r) =
    let j = size_join a b in
    let k : size (join a b) ≡ size d = ap size e in
    let la : size a < n = omega arith in
    let lb : size b < n = omega arith in
    F.fits_turn a b e s (h a la p) (rep_below E N n T h lb r)

elem_below : (E : Definitions) (N : Meaning) (n : ℕ) (c : LabelClass) (T : Tree) → FitBelow E N n T → FitBelow E N (suc n) (Elem c T)
elem_below E N n c T h empty l f = absurd f
elem_below E N n c T h (text s d) l f = absurd f
elem_below E N n c T h (element w k d) l f =
    let lk : size k < n = omega arith in
    subst (λ r. Fits E (Elem c T) (element w k r)) (sym f.0) (F.fits_elem f.1 (h k lk f.2))

-- a type whose names outside of labels are among some of which this is known
by_tops : (E : Definitions) (N : Meaning) (n : ℕ) (known : List (List ℕ)) →
    ((T : Tree) → FitBelow E N n T) → ((x : List ℕ) → has_word known x ≡ true → FitBelow E N (suc n) (Name x)) →
    (T : Tree) → tops_only known T ≡ true → FitBelow E N (suc n) T
by_tops E N n known p h Empty g d l f = subst (Fits E Empty) (sym f) F.fits_empty
by_tops E N n known p h Text g d l f = text_fits E d f
by_tops E N n known p h (Words w) g d l f = words_fit E w d f
by_tops E N n known p h (Name x) g d l f = h x g d l f
by_tops E N n known p h (Elem c T) g d l f = elem_below E N n c T (p T) d l f
by_tops E N n known p h (Seq T U) g d l f =
    let j = size_join f.0 f.1 in
    let k : size (join f.0 f.1) ≡ size d = ap size f.2 in
    let la : size f.0 < suc n = omega arith in
    let lb : size f.1 < suc n = omega arith in
    F.fits_seq f.0 f.1 f.2 (by_tops E N n known p h T (and_left _ _ g) f.0 la f.3) (by_tops E N n known p h U (and_right (tops_only known T) _ g) f.1 lb f.4)
by_tops E N n known p h (Alt T U) g d l (inl f) = F.fits_left (by_tops E N n known p h T (and_left _ _ g) d l f)
by_tops E N n known p h (Alt T U) g d l (inr f) = F.fits_right (by_tops E N n known p h U (and_right (tops_only known T) _ g) d l f)
by_tops E N n known p h (Star T) g d l f = rep_below E N (suc n) T (by_tops E N n known p h T g) l f
by_tops E N n known p h (Plus T) g d l f =
    let j = size_join f.0 f.1 in
    let k : size (join f.0 f.1) ≡ size d = ap size f.2 in
    let la : size f.0 < suc n = omega arith in
    let lb : size f.1 < suc n = omega arith in
    F.fits_plus f.0 f.1 f.2 (by_tops E N n known p h T g f.0 la f.3) (rep_below E N (suc n) T (by_tops E N n known p h T g) lb f.4)
by_tops E N n known p h (Opt T) g d l (inl e) = subst (Fits E (Opt T)) (sym e) F.fits_absent
by_tops E N n known p h (Opt T) g d l (inr f) = F.fits_present (by_tops E N n known p h T g d l f)
by_tops E N n known p h (Val x T) g d l f = F.fits_val (by_tops E N n known p h T g d l f)

-- any type, where each name is one that this is known of
by_names : (E : Definitions) (N : Meaning) (n : ℕ) →
    ((T : Tree) → FitBelow E N n T) → ((x : List ℕ) → FitBelow E N (suc n) (Name x)) → (T : Tree) → FitBelow E N (suc n) T
by_names E N n p h Empty d l f = subst (Fits E Empty) (sym f) F.fits_empty
by_names E N n p h Text d l f = text_fits E d f
by_names E N n p h (Words w) d l f = words_fit E w d f
by_names E N n p h (Name x) d l f = h x d l f
by_names E N n p h (Elem c T) d l f = elem_below E N n c T (p T) d l f
by_names E N n p h (Seq T U) d l f =
    let j = size_join f.0 f.1 in
    let k : size (join f.0 f.1) ≡ size d = ap size f.2 in
    let la : size f.0 < suc n = omega arith in
    let lb : size f.1 < suc n = omega arith in
    F.fits_seq f.0 f.1 f.2 (by_names E N n p h T f.0 la f.3) (by_names E N n p h U f.1 lb f.4)
by_names E N n p h (Alt T U) d l (inl f) = F.fits_left (by_names E N n p h T d l f)
by_names E N n p h (Alt T U) d l (inr f) = F.fits_right (by_names E N n p h U d l f)
by_names E N n p h (Star T) d l f = rep_below E N (suc n) T (by_names E N n p h T) l f
by_names E N n p h (Plus T) d l f =
    let j = size_join f.0 f.1 in
    let k : size (join f.0 f.1) ≡ size d = ap size f.2 in
    let la : size f.0 < suc n = omega arith in
    let lb : size f.1 < suc n = omega arith in
    F.fits_plus f.0 f.1 f.2 (by_names E N n p h T f.0 la f.3) (rep_below E N (suc n) T (by_names E N n p h T) lb f.4)
by_names E N n p h (Opt T) d l (inl e) = subst (Fits E (Opt T)) (sym e) F.fits_absent
by_names E N n p h (Opt T) d l (inr f) = F.fits_present (by_names E N n p h T d l f)
by_names E N n p h (Val x T) d l f = F.fits_val (by_names E N n p h T d l f)

-- a name of which it is known that its definition uses only names of the list outside of labels
name_below : (E : Definitions) (N : Meaning) → IsMeaning E N → (n : ℕ) (known : List (List ℕ)) →
    ((T : Tree) → FitBelow E N n T) → ((x : List ℕ) → has_word known x ≡ true → FitBelow E N (suc n) (Name x)) →
    (x : List ℕ) → ((T : Tree) → body E x ≡ Some T → tops_only known T ≡ true) → FitBelow E N (suc n) (Name x)
name_below E N m n known p h x g d l f =
    let b = m.most x d f in F.fits_name b.1 (by_tops E N n known p h b.0 (g b.0 b.1) d l b.2)

-- at least, for documents below a size
below : (E : Definitions) (N : Meaning) → IsMeaning E N → (known : List (List ℕ)) → AreGuarded E known →
    ((x : List ℕ) → has_word known x ≡ true → (T : Tree) → body E x ≡ Some T → tops_only [] T ≡ true) →
    (n : ℕ) (T : Tree) → FitBelow E N n T
below E N m known g first zero T d l f = absurd (omega arith)
below E N m known g first (suc n) T d l f =
    by_names E N n (below E N m known g first n)
    (λ x. name_below E N m n known (below E N m known g first n)
    (λ y k. name_below E N m n [] (below E N m known g first n) (λ z q. cc) y (first y k)) x (g x)) T d l f

-- at least
pub fits_meant : (E : Definitions) (N : Meaning) → IsMeaning E N → (known : List (List ℕ)) → AreGuarded E known →
    ((x : List ℕ) → has_word known x ≡ true → (T : Tree) → body E x ≡ Some T → tops_only [] T ≡ true) →
    (T : Tree) (d : Document) → FitsAs N T d → Fits E T d
fits_meant E N m known g first T d f =
    let l : size d < suc (size d) = omega arith in below E N m known g first (suc (size d)) T d l f

pub names_settle : NamesSettle
names_settle E N known m g first T d = (λ f. as_meant E N m f, λ f. fits_meant E N m known g first T d f)
