-- Splits of documents, what a loop over them finds, and how many calls it takes to test what fits.
use Rattle.std.proofs.Common.{◌≡◌, ◌↔◌, ℕ, zero, suc, ◌+◌, ◌<◌, ◌≤◌, arith, Bool, true, false, not, IsTrue, ◌⊎◌, inl, inr, List, [], ◌∷◌, Option, Some, None, Result, Ok, Err, IfOk, length, get_or, drop, refl, ap, sym, ◌∙◌, subst}
use Rattle.std.proofs.lemmas.List.{at_drop_more}
use Rattle.xd_doc.specs.Document.{Document, empty, text, element, join, size, has_item}
use Rattle.xd_syntax.specs.Tree.{Tree, Empty, Text, Words, Name, Elem, Seq, Alt, Star, Plus, Opt, Val, Definitions, body}
use Rattle.xd_syntax.specs.Fits.{Split}
use Rattle.xd_meaning.specs.FitsWithin.{FitsWithin, Repeats, no_turn, one_turn}
use Rattle.xd_laws.proofs.Unfoldings.{size_join}
use Rattle.xd_plain.specs.PlainDocuments.{document_of}
use Rattle.xd_plain.specs.PlainFits.{splits, splits_of, behind_text, behind_element}
use Rattle.xd_plain.specs.declared.fits.Split.{Split as Halves}

-- some of these is in P and Q
abbrev pub SomeSplit : (Document → Type 0) → (Document → Type 0) → List (Document × Document) → Type 0
SomeSplit P Q [] = ⊥
SomeSplit P Q (p ∷ ps) = (P p.0 × Q p.1) ⊎ SomeSplit P Q ps

from_behind_text : (P Q : Document → Type 0) (s : List ℕ) (ps : List (Document × Document)) →
    SomeSplit P Q (behind_text s ps) → SomeSplit (λ a. P (text s a)) Q ps
from_behind_text P Q s [] h = absurd h
from_behind_text P Q s (p ∷ ps) (inl h) = inl h
from_behind_text P Q s (p ∷ ps) (inr h) = inr (from_behind_text P Q s ps h)

to_behind_text : (P Q : Document → Type 0) (s : List ℕ) (ps : List (Document × Document)) →
    SomeSplit (λ a. P (text s a)) Q ps → SomeSplit P Q (behind_text s ps)
to_behind_text P Q s [] h = absurd h
to_behind_text P Q s (p ∷ ps) (inl h) = inl h
to_behind_text P Q s (p ∷ ps) (inr h) = inr (to_behind_text P Q s ps h)

from_behind_element : (P Q : Document → Type 0) (l : List ℕ) (c : Document) (ps : List (Document × Document)) →
    SomeSplit P Q (behind_element l c ps) → SomeSplit (λ a. P (element l c a)) Q ps
from_behind_element P Q l c [] h = absurd h
from_behind_element P Q l c (p ∷ ps) (inl h) = inl h
from_behind_element P Q l c (p ∷ ps) (inr h) = inr (from_behind_element P Q l c ps h)

to_behind_element : (P Q : Document → Type 0) (l : List ℕ) (c : Document) (ps : List (Document × Document)) →
    SomeSplit (λ a. P (element l c a)) Q ps → SomeSplit P Q (behind_element l c ps)
to_behind_element P Q l c [] h = absurd h
to_behind_element P Q l c (p ∷ ps) (inl h) = inl h
to_behind_element P Q l c (p ∷ ps) (inr h) = inr (to_behind_element P Q l c ps h)

pub split_of_some : (P Q : Document → Type 0) (d : Document) → SomeSplit P Q (splits d) → Split P Q d
split_of_some P Q empty (inl h) = (empty, empty, refl, h.0, h.1)
split_of_some P Q empty (inr h) = absurd h
split_of_some P Q (text s r) (inl h) = (empty, text s r, refl, h.0, h.1)
split_of_some P Q (text s r) (inr h) =
    let g = split_of_some (λ a. P (text s a)) Q r (from_behind_text P Q s (splits r) h) in
    (text s g.0, g.1, ap (text s) g.2, g.3, g.4)
split_of_some P Q (element l c r) (inl h) = (empty, element l c r, refl, h.0, h.1)
split_of_some P Q (element l c r) (inr h) =
    let g = split_of_some (λ a. P (element l c a)) Q r (from_behind_element P Q l c (splits r) h) in
    (element l c g.0, g.1, ap (element l c) g.2, g.3, g.4)

empty_front : (P Q : Document → Type 0) (b : Document) → P empty → Q b → SomeSplit P Q (splits b)
empty_front P Q empty p q = inl (p, q)
empty_front P Q (text s r) p q = inl (p, q)
empty_front P Q (element l c r) p q = inl (p, q)

some_of_joined : (P Q : Document → Type 0) (a b : Document) → P a → Q b → SomeSplit P Q (splits (join a b))
some_of_joined P Q empty b p q = empty_front P Q b p q
some_of_joined P Q (text s a) b p q = inr (to_behind_text P Q s (splits (join a b)) (some_of_joined (λ e. P (text s e)) Q a b p q))
some_of_joined P Q (element l c a) b p q =
    inr (to_behind_element P Q l c (splits (join a b)) (some_of_joined (λ e. P (element l c e)) Q a b p q))

pub some_of_split : (P Q : Document → Type 0) (d : Document) → Split P Q d → SomeSplit P Q (splits d)
some_of_split P Q d h = subst (λ e. SomeSplit P Q (splits e)) h.2 (some_of_joined P Q h.0 h.1 h.3 h.4)

-- Loops over splits.

-- what is in P and Q, where it is among those from the index on
pub some_dropped : (P Q : Document → Type 0) (i : ℕ) (xs : List Halves) → SomeSplit P Q (splits_of (drop i xs)) → SomeSplit P Q (splits_of xs)
some_dropped P Q zero xs h = h
some_dropped P Q (suc i) [] h = absurd h
some_dropped P Q (suc i) (x ∷ xs) h = inr (some_dropped P Q i xs h)

next_split : (xs : List Halves) (i : ℕ) (x : Halves) → i < length xs → x ≡ get_or xs i x → drop i xs ≡ x ∷ drop (i + 1) xs
next_split xs i x h e = at_drop_more (λ ys. ys) xs i x h ∙ ap (λ y. y ∷ drop (i + 1) xs) (sym e)

pub some_here : (P Q : Document → Type 0) (xs : List Halves) (i : ℕ) (x : Halves) → i < length xs → x ≡ get_or xs i x →
    P (document_of x.front) → Q (document_of x.back) → SomeSplit P Q (splits_of xs)
some_here P Q xs i x h e p q =
    some_dropped P Q i xs (subst (λ ys. SomeSplit P Q (splits_of ys)) (sym (next_split xs i x h e)) (inl (p, q)))

pub some_later : (P Q : Document → Type 0) (xs : List Halves) (i : ℕ) (x : Halves) → i < length xs → x ≡ get_or xs i x →
    (P (document_of x.front) → Q (document_of x.back) → ⊥) → SomeSplit P Q (splits_of (drop i xs)) → SomeSplit P Q (splits_of (drop (i + 1) xs))
some_later P Q xs i x h e not_here s =
    let k : SomeSplit P Q (splits_of (x ∷ drop (i + 1) xs)) = subst (λ ys. SomeSplit P Q (splits_of ys)) (next_split xs i x h e) s in
    elim k [ inl pq ↦ absurd (not_here pq.0 pq.1) | inr r ↦ r ]

none_left : (P Q : Document → Type 0) (xs : List Halves) (i : ℕ) → length xs ≤ i → SomeSplit P Q (splits_of (drop i xs)) → ⊥
none_left P Q [] zero h s = s
none_left P Q [] (suc i) h s = s
none_left P Q (x ∷ xs) zero h s = absurd (omega arith)
none_left P Q (x ∷ xs) (suc i) h s = none_left P Q xs i (omega arith) s

-- the loop has found a split
pub found : (P Q : Document → Type 0) (d : Document) (xs : List Halves) (i : ℕ) (x : Halves) → splits_of xs ≡ splits d → i < length xs → x ≡ get_or xs i x →
    P (document_of x.front) → Q (document_of x.back) → Split P Q d
found P Q d xs i x k h e p q = split_of_some P Q d (subst (SomeSplit P Q) k (some_here P Q xs i x h e p q))

-- the loop has come to the end
pub none_found : (P Q : Document → Type 0) (d : Document) (xs : List Halves) (i : ℕ) → splits_of xs ≡ splits d → length xs ≤ i →
    (SomeSplit P Q (splits_of xs) → SomeSplit P Q (splits_of (drop i xs))) → Split P Q d → ⊥
none_found P Q d xs i k h inv s =
    none_left P Q xs i h (inv (subst (SomeSplit P Q) (sym k) (some_of_split P Q d s)))

-- a split's parts are no larger than the document
halves_joined : (d : Document) (xs : List Halves) (i : ℕ) (x : Halves) → splits_of xs ≡ splits d → i < length xs → x ≡ get_or xs i x →
    join (document_of x.front) (document_of x.back) ≡ d
halves_joined d xs i x k h e =
    let s = found (λ a. a ≡ document_of x.front) (λ b. b ≡ document_of x.back) d xs i x k h e refl refl in
    ap (λ b. join (document_of x.front) b) (sym s.4) ∙ ap (λ a. join a s.1) (sym s.3) ∙ s.2

pub sizes : (d : Document) (xs : List Halves) (i : ℕ) (x : Halves) → splits_of xs ≡ splits d → i < length xs → x ≡ get_or xs i x →
    size (document_of x.front) + size (document_of x.back) ≡ size d
sizes d xs i x k h e =
    sym (size_join (document_of x.front) (document_of x.back)) ∙ ap size (halves_joined d xs i x k h e)

pub size_some : (d : Document) → has_item d ≡ true → 1 ≤ size d
size_some empty h = cc
size_some (text s d) h = omega arith
size_some (element l c d) h = omega arith

-- a front with an item that is in P
abbrev pub Turn : (Document → Type 0) → Document → Type 0
Turn P a = (has_item a ≡ true) × P a

pub repeats_split : (P : Document → Type 0) (d : Document) → has_item d ≡ true → Repeats P d → Split (Turn P) (Repeats P) d
repeats_split P _ h no_turn = cc
repeats_split P d h (one_turn a b e i p q) = (a, b, e, (i, p), q)

pub split_repeats : (P : Document → Type 0) (d : Document) → Split (Turn P) (Repeats P) d → Repeats P d
split_repeats P d s = one_turn s.0 s.1 s.2 (s.3).0 (s.3).1 s.4

pub empty_repeats : (P : Document → Type 0) (d : Document) → not (has_item d) ≡ true → Repeats P d
empty_repeats P empty h = no_turn
empty_repeats P (text s r) h = cc
empty_repeats P (element l c r) h = cc

pub filled_by : (b : Bool) → not b ≡ false → b ≡ true
filled_by true h = refl
filled_by false h = cc

-- What is told of a fact.

pub told : (A : Type 0) → A → (IsTrue true → A) × (A → IsTrue true)
told A a = (λ e. a, λ x. refl)

pub denied : (A : Type 0) → (A → ⊥) → (IsTrue false → A) × (A → IsTrue false)
denied A f = (λ e. let z : false ≡ true = e in absurd (let w : ⊥ = cc in w), λ a. absurd (f a))

pub if_ok : {A E : Type 0} (P Q : A → Type 0) → ((a : A) → P a → Q a) → (r : Result A E) → IfOk r P → IfOk r Q
if_ok P Q f (Ok a) h = f a h
if_ok P Q f (Err e) h = h

-- of a type under another name
pub same_type : {X : Type 0} (E : Definitions) (n : ℕ) (d : Document) (r : Result Bool X) {T U : Tree} → T ≡ U →
    IfOk r (λ fits. IsTrue fits ↔ FitsWithin E n T d) → IfOk r (λ fits. IsTrue fits ↔ FitsWithin E n U d)
same_type E n d r e h = subst (λ T. IfOk r (λ fits. IsTrue fits ↔ FitsWithin E n T d)) e h

-- How many calls it takes.

abbrev pub weight_by : (List ℕ → ℕ) → Tree → ℕ
weight_by K Empty = 1
weight_by K Text = 1
weight_by K (Words w) = 1
weight_by K (Name x) = K x + 1
weight_by K (Elem c T) = weight_by K T + 1
weight_by K (Seq T U) = weight_by K T + weight_by K U + 1
weight_by K (Alt T U) = weight_by K T + weight_by K U + 1
weight_by K (Star T) = weight_by K T + 1
weight_by K (Plus T) = weight_by K T + 1
weight_by K (Opt T) = weight_by K T + 1
weight_by K (Val x T) = weight_by K T + 1

abbrev pub weight_of_definition : (Tree → ℕ) → Option Tree → ℕ
weight_of_definition C None = 0
weight_of_definition C (Some T) = C T

abbrev pub weight_of_name : Definitions → ℕ → List ℕ → ℕ
weight_of_name E zero x = 0
weight_of_name E (suc n) x = weight_of_definition (weight_by (weight_of_name E n)) (body E x)

-- of a type, names unfolded
abbrev pub weight : Definitions → ℕ → Tree → ℕ
weight E n T = weight_by (weight_of_name E n) T

-- what is told of a fact that is not so
pub refused : {A : Type 0} (b : Bool) → b ≡ false → (IsTrue b → A) × (A → IsTrue b) → A → ⊥
refused b e h a = let k : b ≡ true = h.1 a in let w : ⊥ = cc in w
