-- a document that isn't empty fits exactly where it begins as one of the heads
use Rattle.std.proofs.Common.{◌≡◌, ℕ, suc, zero, ◌+◌, ◌≤◌, arith, Bool, true, cond, List, [], ◌∷◌, ◌++◌, map, length, Option, Some, None, refl, ap, sym, subst, ◌∙◌, inl, inr}
use Rattle.std.proofs.lemmas.Bool.{and_from}
use Rattle.xd_doc.specs.Document.{Document, empty, text, element, join}
use Rattle.xd_doc.specs.Classes.{LabelClass, TextClass, class_has}
use Rattle.xd_doc.specs.Members.{IsOneOf}
use Rattle.xd_doc.proofs.Bools.{and_parts, or_cases, or_true}
use Rattle.xd_doc.proofs.Joins.{join_empty-right, join_assoc, joined_none}
use Rattle.xd_syntax.specs.Tree.{Tree, Empty, Text, Words, Name, Elem, Seq, Alt, Star, Plus, Opt, Val, Definitions, body, seq_of}
use Rattle.xd_syntax.specs.Fits.{Fits, Split, empty_by}
use Rattle.xd_laws.specs.Guarded.{Front, one, Guarded, Defined}
use Rattle.xd_meaning.specs.CanBeEmpty.{empty_definition, empty_name, can_be_empty}
use Rattle.xd_rules.specs.Heads.{Head, element_in, text_in}
use Rattle.xd_meaning.specs.Heads.{pieces, followed_by, with_behind, heads_by, heads_of_definition, heads_of_name, heads, all_texts}
use Rattle.xd_meaning.specs.HeadBegins.{Begins}
use Rattle.xd_laws.proofs.Documents.{HasItem, filled, has}
use Rattle.xd_syntax.specs.Fits as F
use Rattle.xd_laws.specs.Guarded as R
use Rattle.xd_syntax.proofs.Members.{mem_append, append_left, append_right, mem_map, map_mem, cond_true}
use Rattle.xd_laws.proofs.Unfoldings.{Trail, trail_short}
use Rattle.xd_laws.proofs.FitsWays.{cond_in}

abbrev FitsAll : Definitions → List Tree → Document → Type 0
FitsAll E [] d = d ≡ empty
FitsAll E (T ∷ Ts) d = Split (Fits E T) (FitsAll E Ts) d

all_fits : (E : Definitions) (Ts : List Tree) (d : Document) → FitsAll E Ts d → Fits E (seq_of Ts) d
all_fits E [] d f = subst (Fits E Empty) (sym f) F.fits_empty
all_fits E (T ∷ []) d f = let e : f.0 ≡ d = sym (join_empty-right f.0) ∙ ap (join f.0) (sym f.4) ∙ f.2 in subst (Fits E T) e f.3
all_fits E (T ∷ (U ∷ Us)) d f = F.fits_seq f.0 f.1 f.2 f.3 (all_fits E (U ∷ Us) f.1 f.4)

fits_all : (E : Definitions) (Ts : List Tree) (d : Document) → Fits E (seq_of Ts) d → FitsAll E Ts d
fits_all E [] _ F.fits_empty = refl
fits_all E (T ∷ []) d f = (d, empty, join_empty-right d, f, refl)
fits_all E (T ∷ (U ∷ Us)) d (F.fits_seq a b e f g) = (a, b, e, f, fits_all E (U ∷ Us) b g)

split_all : (E : Definitions) (Ts Us : List Tree) (d : Document) → FitsAll E (Ts ++ Us) d → Split (FitsAll E Ts) (FitsAll E Us) d
split_all E [] Us d f = (empty, d, refl, refl, f)
split_all E (T ∷ Ts) Us d f =
    let r = split_all E Ts Us f.1 f.4 in
    (join f.0 r.0, r.1, join_assoc f.0 r.0 r.1 ∙ ap (join f.0) r.2 ∙ f.2, (f.0, r.0, refl, f.3, r.3), r.4)

join_all : (E : Definitions) (Ts Us : List Tree) (a b : Document) → FitsAll E Ts a → FitsAll E Us b → FitsAll E (Ts ++ Us) (join a b)
join_all E [] Us a b f g = subst (λ x. FitsAll E Us (join x b)) (sym f) g
join_all E (T ∷ Ts) Us a b f g =
    (f.0, join f.1 b, sym (join_assoc f.0 f.1 b) ∙ ap (λ x. join x b) f.2, f.3, join_all E Ts Us f.1 b f.4 g)

alone : (E : Definitions) (T : Tree) (d : Document) → Fits E T d → FitsAll E (T ∷ []) d
alone E T d f = (d, empty, join_empty-right d, f, refl)

to_pieces : (E : Definitions) (T : Tree) (d : Document) → Fits E T d → FitsAll E (pieces T) d
to_pieces E Empty _ F.fits_empty = refl
to_pieces E (Seq T U) d (F.fits_seq a b e f g) = (a, b, e, f, to_pieces E U b g)
to_pieces E Text d f = alone E Text d f
to_pieces E (Words w) d f = alone E (Words w) d f
to_pieces E (Name x) d f = alone E (Name x) d f
to_pieces E (Elem c T) d f = alone E (Elem c T) d f
to_pieces E (Alt T U) d f = alone E (Alt T U) d f
to_pieces E (Star T) d f = alone E (Star T) d f
to_pieces E (Plus T) d f = alone E (Plus T) d f
to_pieces E (Opt T) d f = alone E (Opt T) d f
to_pieces E (Val x T) d f = alone E (Val x T) d f

from_pieces : (E : Definitions) (T : Tree) (d : Document) → FitsAll E (pieces T) d → Fits E T d
from_pieces E Empty d f = subst (Fits E Empty) (sym f) F.fits_empty
from_pieces E (Seq T U) d f = F.fits_seq f.0 f.1 f.2 f.3 (from_pieces E U f.1 f.4)
from_pieces E Text d f = all_fits E (Text ∷ []) d f
from_pieces E (Words w) d f = all_fits E (Words w ∷ []) d f
from_pieces E (Name x) d f = all_fits E (Name x ∷ []) d f
from_pieces E (Elem c T) d f = all_fits E (Elem c T ∷ []) d f
from_pieces E (Alt T U) d f = all_fits E (Alt T U ∷ []) d f
from_pieces E (Star T) d f = all_fits E (Star T ∷ []) d f
from_pieces E (Plus T) d f = all_fits E (Plus T ∷ []) d f
from_pieces E (Opt T) d f = all_fits E (Opt T ∷ []) d f
from_pieces E (Val x T) d f = all_fits E (Val x T ∷ []) d f

pub behind_in : (E : Definitions) (T U : Tree) (a b : Document) → Fits E T a → Fits E U b → Fits E (followed_by T U) (join a b)
behind_in E T U a b f g = all_fits E (pieces T ++ pieces U) (join a b) (join_all E (pieces T) (pieces U) a b (to_pieces E T a f) (to_pieces E U b g))

pub behind_out : (E : Definitions) (T U : Tree) (d : Document) → Fits E (followed_by T U) d → Split (Fits E T) (Fits E U) d
behind_out E T U d f =
    let r = split_all E (pieces T) (pieces U) d (fits_all E (pieces T ++ pieces U) d f) in
    (r.0, r.1, r.2, from_pieces E T r.0 r.3, from_pieces E U r.1 r.4)

begins_in : (E : Definitions) (U : Tree) (h : Head Tree) (a b : Document) → Begins E h a → Fits E U b → Begins E (with_behind U h) (join a b)
begins_in E U h empty b p g = absurd p
begins_in E U h (text s a) b p g = (p.0, p.1, p.2, behind_in E h.rest U a b p.3 g)
begins_in E U h (element l k a) b p g = (p.0, p.1, p.2, p.3, behind_in E h.rest U a b p.4 g)

begins_out : (E : Definitions) (U : Tree) (h : Head Tree) (d : Document) → Begins E (with_behind U h) d → Split (Begins E h) (Fits E U) d
begins_out E U h empty p = absurd p
begins_out E U h (text s d) p = let r = behind_out E h.rest U d p.3 in (text s r.0, r.1, ap (text s) r.2, (p.0, p.1, p.2, r.3), r.4)
begins_out E U h (element l k d) p = let r = behind_out E h.rest U d p.4 in (element l k r.0, r.1, ap (element l k) r.2, (p.0, p.1, p.2, p.3, r.3), r.4)

begins_some : (E : Definitions) (h : Head Tree) (d : Document) → Begins E h d → HasItem d
begins_some E h empty p = p
begins_some E h (text s d) p = tt
begins_some E h (element l k d) p = tt

fits_empty : (E : Definitions) (d : Document) → Fits E Empty d → d ≡ empty
fits_empty E _ F.fits_empty = refl

abbrev text_head : TextClass → Head Tree
text_head w = record { kind = text_in w; content = Empty; rest = Empty }

abbrev elem_head : LabelClass → Tree → Head Tree
elem_head c T = record { kind = element_in c; content = T; rest = Empty }

text_back : (E : Definitions) (w : TextClass) (T : Tree) → ((s : List ℕ) → class_has w s ≡ true → Fits E T (text s empty)) →
    (h : Head Tree) → text_head w ≡ h → (d : Document) → Begins E h d → Fits E T d
text_back E w T fits h e empty p = absurd p
text_back E w T fits h e (text s d) p =
    let i : h.rest ≡ Empty = sym (ap (λ (x : Head Tree). x.rest) e) in
    let a : text_in w ≡ h.kind = ap (λ (x : Head Tree). x.kind) e in
    let b = p.1 in
    let q : p.0 ≡ w = cc in
    let j = fits_empty E d (subst (λ X. Fits E X d) i p.3) in
    subst (λ r. Fits E T (text s r)) (sym j) (fits s (subst (λ x. class_has x s ≡ true) q p.2))
text_back E w T fits h e (element l k d) p =
    let i : text_in w ≡ h.kind = ap (λ (x : Head Tree). x.kind) e in let j = p.1 in cc

elem_back : (E : Definitions) (c : LabelClass) (T : Tree) (h : Head Tree) → elem_head c T ≡ h → (d : Document) → Begins E h d → Fits E (Elem c T) d
elem_back E c T h e empty p = absurd p
elem_back E c T h e (text s d) p =
    let i : element_in c ≡ h.kind = ap (λ (x : Head Tree). x.kind) e in let j = p.1 in cc
elem_back E c T h e (element l k d) p =
    let i : h.rest ≡ Empty = sym (ap (λ (x : Head Tree). x.rest) e) in
    let a : element_in c ≡ h.kind = ap (λ (x : Head Tree). x.kind) e in
    let b = p.1 in
    let q : p.0 ≡ c = cc in
    let j = fits_empty E d (subst (λ X. Fits E X d) i p.4) in
    let t : h.content ≡ T = sym (ap (λ (x : Head Tree). x.content) e) in
    subst (λ r. Fits E (Elem c T) (element l k r)) (sym j) (F.fits_elem (subst (λ x. class_has x l ≡ true) q p.2) (subst (λ X. Fits E X k) t p.3))

-- with an answer for emptiness that is right
module _ (E : Definitions) (Z : Tree → Bool) (right : (T : Tree) → Z T ≡ true → Fits E T empty) where
  turn_back : (T : Tree) (N : List ℕ → List (Head Tree)) → ((h : Head Tree) (d : Document) → IsOneOf h (heads_by Z N T) → Begins E h d → Fits E T d) →
      (h : Head Tree) (d : Document) → IsOneOf h (map (with_behind (Star T)) (heads_by Z N T)) → Begins E h d → Split (λ a. HasItem a × Fits E T a) (Fits E (Star T)) d
  turn_back T N back h d m p =
      let r = mem_map (with_behind (Star T)) h (heads_by Z N T) m in
      let q = begins_out E (Star T) r.0 d (subst (λ x. Begins E x d) (sym r.2) p) in
      (q.0, q.1, q.2, (begins_some E r.0 q.0 q.3, back r.0 q.0 r.1 q.3), q.4)

  back_by : (N : List ℕ → List (Head Tree)) → ((x : List ℕ) (h : Head Tree) (d : Document) → IsOneOf h (N x) → Begins E h d → Fits E (Name x) d) →
      (T : Tree) (h : Head Tree) (d : Document) → IsOneOf h (heads_by Z N T) → Begins E h d → Fits E T d
  back_by N names Empty h d m p = absurd m
  back_by N names Text h d (inl e) p = text_back E all_texts Text (λ s c. F.fits_text) h e d p
  back_by N names Text h d (inr m) p = absurd m
  back_by N names (Words w) h d (inl e) p = text_back E w (Words w) (λ s c. F.fits_words c) h e d p
  back_by N names (Words w) h d (inr m) p = absurd m
  back_by N names (Name x) h d m p = names x h d m p
  back_by N names (Elem c T) h d (inl e) p = elem_back E c T h e d p
  back_by N names (Elem c T) h d (inr m) p = absurd m
  back_by N names (Seq T U) h d m p =
      elim (mem_append h (map (with_behind U) (heads_by Z N T)) (cond (Z T) (heads_by Z N U) []) m) [
        | inl a ↦
            let r = mem_map (with_behind U) h (heads_by Z N T) a in
            let q = begins_out E U r.0 d (subst (λ x. Begins E x d) (sym r.2) p) in
            F.fits_seq q.0 q.1 q.2 (back_by N names T r.0 q.0 r.1 q.3) q.4
        | inr b ↦ let c = cond_true (Z T) h (heads_by Z N U) b in F.fits_seq empty d refl (right T c.0) (back_by N names U h d c.1 p)
      ]
  back_by N names (Alt T U) h d m p =
      elim (mem_append h (heads_by Z N T) (heads_by Z N U) m) [ inl a ↦ F.fits_left (back_by N names T h d a p) | inr b ↦ F.fits_right (back_by N names U h d b p) ]
  back_by N names (Star T) h d m p =
      let r = turn_back T N (λ g k. back_by N names T g k) h d m p in F.fits_turn r.0 r.1 r.2 (has r.0 (r.3).0) (r.3).1 r.4
  back_by N names (Plus T) h d m p =
      let r = turn_back T N (λ g k. back_by N names T g k) h d m p in F.fits_plus r.0 r.1 r.2 (r.3).1 r.4
  back_by N names (Opt T) h d m p = F.fits_present (back_by N names T h d m p)
  back_by N names (Val x T) h d m p = F.fits_val (back_by N names T h d m p)

-- the answer for names is right, whatever the number of rounds
body_back : (E : Definitions) (N : Tree → List (Head Tree)) (x : List ℕ) → ((T : Tree) (h : Head Tree) (d : Document) → IsOneOf h (N T) → Begins E h d → Fits E T d) → (o : Option Tree) → body E x ≡ o →
    (h : Head Tree) (d : Document) → IsOneOf h (heads_of_definition N o) → Begins E h d → Fits E (Name x) d
body_back E N x k None e h d m p = absurd m
body_back E N x k (Some T) e h d m p = F.fits_name e (k T h d m p)

name_back : (E : Definitions) (Z : Tree → Bool) (right : (T : Tree) → Z T ≡ true → Fits E T empty) (n : ℕ) (x : List ℕ) (h : Head Tree) (d : Document) → IsOneOf h (heads_of_name Z E n x) → Begins E h d → Fits E (Name x) d
name_back E Z right zero x h d m p = absurd m
name_back E Z right (suc n) x h d m p =
    body_back E (heads_by Z (heads_of_name Z E n)) x (back_by E Z right (heads_of_name Z E n) (name_back E Z right n)) (body E x) refl h d m p

empty_right_by : (E : Definitions) (N : List ℕ → Bool) → ((x : List ℕ) → N x ≡ true → Fits E (Name x) empty) → (T : Tree) → empty_by N T ≡ true → Fits E T empty
empty_right_by E N k Empty h = F.fits_empty
empty_right_by E N k Text h = cc
empty_right_by E N k (Words w) h = cc
empty_right_by E N k (Name x) h = k x h
empty_right_by E N k (Elem c T) h = cc
empty_right_by E N k (Seq T U) h = let r = and_parts _ _ h in F.fits_seq empty empty refl (empty_right_by E N k T r.0) (empty_right_by E N k U r.1)
empty_right_by E N k (Alt T U) h = elim (or_cases _ _ h) [ inl a ↦ F.fits_left (empty_right_by E N k T a) | inr b ↦ F.fits_right (empty_right_by E N k U b) ]
empty_right_by E N k (Star T) h = F.fits_no_turn
empty_right_by E N k (Plus T) h = F.fits_plus empty empty refl (empty_right_by E N k T h) F.fits_no_turn
empty_right_by E N k (Opt T) h = F.fits_absent
empty_right_by E N k (Val x T) h = F.fits_val (empty_right_by E N k T h)

empty_body_right : (E : Definitions) (x : List ℕ) (N : Tree → Bool) → ((T : Tree) → N T ≡ true → Fits E T empty) → (o : Option Tree) → body E x ≡ o → empty_definition N o ≡ true → Fits E (Name x) empty
empty_body_right E x N k None e h = cc
empty_body_right E x N k (Some T) e h = F.fits_name e (k T h)

empty_name_right : (E : Definitions) (n : ℕ) (x : List ℕ) → empty_name E n x ≡ true → Fits E (Name x) empty
empty_name_right E zero x h = cc
empty_name_right E (suc n) x h = empty_body_right E x (empty_by (empty_name E n)) (empty_right_by E (empty_name E n) (empty_name_right E n)) (body E x) refl h

pub empty_right : (E : Definitions) (T : Tree) → can_be_empty E T ≡ true → Fits E T empty
unfolding can_be_empty
empty_right E T h = empty_right_by E (empty_name E (length E)) (empty_name_right E (length E)) T h

-- what begins as a head fits
pub head_fits : (E : Definitions) (T : Tree) (h : Head Tree) (d : Document) → IsOneOf h (heads E T) → Begins E h d → Fits E T d
unfolding heads
head_fits E T h d m p = back_by E (can_be_empty E) (empty_right E) (heads_of_name (can_be_empty E) E (length E)) (name_back E (can_be_empty E) (empty_right E) (length E)) T h d m p

one_round : (E : Definitions) (x : List ℕ) (T : Tree) → body E x ≡ Some T → (n : ℕ) → 1 ≤ n → ((k : ℕ) → n ≡ suc k → empty_by (empty_name E k) T ≡ true) → empty_name E n x ≡ true
one_round E x T q zero l f = absurd (omega arith)
one_round E x T q (suc k) l f = rw q (f k refl)

abbrev pub HasHead : Definitions → List (Head Tree) → Document → Type 0
HasHead E hs d = (h : Head Tree) × IsOneOf h hs × Begins E h d

one_more : (E : Definitions) (Z : Tree → Bool) (x : List ℕ) (T : Tree) (d : Document) → body E x ≡ Some T → (n : ℕ) → 1 ≤ n →
    ((k : ℕ) → n ≡ suc k → HasHead E (heads_by Z (heads_of_name Z E k) T) d) → HasHead E (heads_of_name Z E n x) d
one_more E Z x T d q zero l f = absurd (omega arith)
one_more E Z x T d q (suc k) l f = rw q (f k refl)

-- the head of a part that isn't empty, or of what stands followed_by an empty one
seq_head : (E : Definitions) (U : Tree) (hs ks : List (Head Tree)) (z : Bool) (a b d : Document) → join a b ≡ d → HasItem d → Fits E U b →
    (HasItem a → HasHead E hs a) → (a ≡ empty → (z ≡ true) × HasHead E ks b) → HasHead E (map (with_behind U) hs ++ cond z ks []) d
seq_head E U hs ks z empty b d e s g f k =
    let r = k refl in ((r.1).0, append_right (r.1).0 (map (with_behind U) hs) (cond z ks []) (cond_in z (r.1).0 ks r.0 (r.1).1), subst (Begins E (r.1).0) e (r.1).2)
seq_head E U hs ks z (text w a) b d e s g f k =
    let r = f tt in (with_behind U r.0, append_left (with_behind U r.0) (map (with_behind U) hs) (cond z ks []) (map_mem (with_behind U) r.0 hs r.1), subst (Begins E (with_behind U r.0)) e (begins_in E U r.0 (text w a) b r.2 g))
seq_head E U hs ks z (element w c a) b d e s g f k =
    let r = f tt in (with_behind U r.0, append_left (with_behind U r.0) (map (with_behind U) hs) (cond z ks []) (map_mem (with_behind U) r.0 hs r.1), subst (Begins E (with_behind U r.0)) e (begins_in E U r.0 (element w c a) b r.2 g))

turn_head : (E : Definitions) (T : Tree) (hs : List (Head Tree)) (a b d : Document) → join a b ≡ d → Fits E (Star T) b → HasHead E hs a → HasHead E (map (with_behind (Star T)) hs) d
turn_head E T hs a b d e g r =
    (with_behind (Star T) r.0, map_mem (with_behind (Star T)) r.0 hs r.1, subst (Begins E (with_behind (Star T) r.0)) e (begins_in E (Star T) r.0 a b r.2 g))

some_or : (P : Type 0) (a : Document) → (HasItem a → P) → (a ≡ empty → P) → P
some_or P empty f g = g refl
some_or P (text s a) f g = f tt
some_or P (element l k a) f g = f tt

module _ (E : Definitions) (guarded : Guarded E) where
  empty_found : (n : ℕ) (V : List (List ℕ)) {T : Tree} {d : Document} → ((y : List ℕ) → Front E T y → Defined E y → Trail E (y ∷ V)) → length E ≤ n + length V →
      Fits E T d → d ≡ empty → empty_by (empty_name E n) T ≡ true
  empty_found n V t l F.fits_empty e = refl
  empty_found n V t l F.fits_text e = cc
  empty_found n V t l (F.fits_words h) e = cc
  empty_found n V t l (F.fits_elem c f) e = cc
  empty_found n V t l (F.fits_name {x} {T} {d} q f) e =
      let w = trail_short E guarded (x ∷ V) (t x R.here (T, q)) in
      one_round E x T q n (omega arith) (λ k i. empty_found k (x ∷ V) (λ y z def. (def, (T, q, z), t x R.here (T, q))) (omega arith) f e)
  empty_found n V t l (F.fits_seq {T} {U} {d} a b q f g) e =
      let j = joined_none a b (q ∙ e) in
      and_from _ _ (empty_found n V (λ y k. t y (R.seq_first k)) l f j.0)
      (empty_found n V (λ y k. t y (R.seq_next (subst (Fits E T) j.0 f) k)) l g j.1)
  empty_found n V t l (F.fits_left f) e = rw (empty_found n V (λ y k. t y (R.alt_left k)) l f e)
  empty_found n V t l (F.fits_right {T} f) e = rw (empty_found n V (λ y k. t y (R.alt_right k)) l f e) (or_true _)
  empty_found n V t l F.fits_no_turn e = refl
  empty_found n V t l (F.fits_turn a b q s f g) e = refl
  empty_found n V t l (F.fits_plus a b q f g) e = empty_found n V (λ y k. t y (R.plus k)) l f (joined_none a b (q ∙ e)).0
  empty_found n V t l F.fits_absent e = refl
  empty_found n V t l (F.fits_present f) e = refl
  empty_found n V t l (F.fits_val f) e = empty_found n V (λ y k. t y (R.val k)) l f e

  pub empty_exact : (T : Tree) → Fits E T empty → can_be_empty E T ≡ true
  unfolding can_be_empty
  empty_exact T f = empty_found (length E) [] (λ y k def. def) (omega arith) f refl

  head_found : (n : ℕ) (V : List (List ℕ)) {T : Tree} {d : Document} → ((y : List ℕ) → Front E T y → Defined E y → Trail E (y ∷ V)) → length E ≤ n + length V →
      Fits E T d → HasItem d → HasHead E (heads_by (can_be_empty E) (heads_of_name (can_be_empty E) E n) T) d
  head_found n V t l F.fits_empty s = absurd s
  head_found n V t l F.fits_text s = (text_head all_texts, inl refl, (all_texts, refl, refl, F.fits_empty))
  head_found n V t l (F.fits_words {w} c) s = (text_head w, inl refl, (w, refl, c, F.fits_empty))
  head_found n V t l (F.fits_elem {c} {T} p f) s = (elem_head c T, inl refl, (c, refl, p, f, F.fits_empty))
  head_found n V t l (F.fits_name {x} {T} {d} q f) s =
      let w = trail_short E guarded (x ∷ V) (t x R.here (T, q)) in
      one_more E (can_be_empty E) x T d q n (omega arith) (λ k i. head_found k (x ∷ V) (λ y z def. (def, (T, q, z), t x R.here (T, q))) (omega arith) f s)
  head_found n V t l (F.fits_seq {T} {U} {d} a b q f g) s =
      seq_head E U (heads_by (can_be_empty E) (heads_of_name (can_be_empty E) E n) T) (heads_by (can_be_empty E) (heads_of_name (can_be_empty E) E n) U) (can_be_empty E T) a b d q s g
      (λ sa. head_found n V (λ y k. t y (R.seq_first k)) l f sa)
      (λ ea. let i : Fits E T empty = subst (Fits E T) ea f in
      let j : b ≡ d = ap (λ z. join z b) (sym ea) ∙ q in
      (empty_exact T i, head_found n V (λ y k. t y (R.seq_next i k)) l g (subst HasItem (sym j) s)))
  head_found n V t l (F.fits_left {T} {U} f) s =
      let r = head_found n V (λ y k. t y (R.alt_left k)) l f s in (r.0, append_left r.0 _ _ r.1, r.2)
  head_found n V t l (F.fits_right {T} {U} f) s =
      let r = head_found n V (λ y k. t y (R.alt_right k)) l f s in (r.0, append_right r.0 _ _ r.1, r.2)
  head_found n V t l F.fits_no_turn s = absurd s
  head_found n V t l (F.fits_turn {T} {d} a b q sa f g) s =
      turn_head E T _ a b d q g (head_found n V (λ y k. t y (R.star k)) l f (filled a sa))
  head_found n V t l (F.fits_plus {T} {d} a b q f g) s =
      some_or (HasHead E (map (with_behind (Star T)) (heads_by (can_be_empty E) (heads_of_name (can_be_empty E) E n) T)) d) a
      (λ sa. turn_head E T _ a b d q g (head_found n V (λ y k. t y (R.plus k)) l f sa))
      (λ ea. let j : b ≡ d = ap (λ z. join z b) (sym ea) ∙ q in
      subst (HasHead E (map (with_behind (Star T)) (heads_by (can_be_empty E) (heads_of_name (can_be_empty E) E n) T))) j
      (head_found n V (λ y k. t y (R.plus (front_star k))) l g (subst HasItem (sym j) s)))
    where
      front_star : {T : Tree} {y : List ℕ} → Front E (Star T) y → Front E T y
      front_star (R.star k) = k
  head_found n V t l F.fits_absent s = absurd s
  head_found n V t l (F.fits_present f) s = head_found n V (λ y k. t y (R.opt k)) l f s
  head_found n V t l (F.fits_val f) s = head_found n V (λ y k. t y (R.val k)) l f s

  -- the law of heads
  pub fits_head : (T : Tree) (d : Document) → Fits E T d → HasItem d → HasHead E (heads E T) d
  unfolding heads
  fits_head T d f s = head_found (length E) [] (λ y k def. def) (omega arith) f s
