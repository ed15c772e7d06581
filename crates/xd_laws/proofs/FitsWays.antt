-- each prefix that fits is taken by some way, with enough unfoldings
use Rattle.std.proofs.Common.{◌≡◌, ℕ, suc, zero, ◌+◌, ◌<◌, ◌≤◌, ltb, ltb-true, lt-ltb, arith, Bool, true, false, cond, List, [], ◌∷◌, ◌++◌, map, flat_map, Some, refl, ap, sym, subst, ◌∙◌, inl}
use Rattle.xd_doc.specs.Document.{Document, empty, text, element, join}
use Rattle.xd_doc.specs.Classes.{LabelClass, class_has}
use Rattle.xd_doc.specs.Members.{IsOneOf}
use Rattle.xd_doc.proofs.Joins.{join_empty-right, join_assoc}
use Rattle.xd_syntax.specs.Tree.{Tree, Name, Definitions, body}
use Rattle.xd_syntax.specs.Fits.{Fits}
use Rattle.xd_syntax.specs.Ways.{Way, no_item_way, then_way, in_turn, item_count, turns, repetition, is_whole, element_ways, binding, ways_within}
use Rattle.xd_laws.proofs.Documents.{HasItem, filled, item_count_some}
use Rattle.xd_syntax.specs.Fits as F
use Rattle.xd_syntax.proofs.Members.{append_left, append_right, map_mem, flat_mem, flat_same}

flat_none : {A B : Type 0} (f : A → List B) (xs : List A) → ((x : A) → f x ≡ []) → flat_map f xs ≡ []
flat_none f [] h = refl
flat_none f (x ∷ xs) h = rw (h x, flat_none f xs h)

pub cond_same : {A : Type 0} (b : Bool) (xs ys : List A) → (b ≡ true → xs ≡ ys) → cond b xs [] ≡ cond b ys []
cond_same true xs ys h = h refl
cond_same false xs ys h = refl

cond_nil : {A : Type 0} (b : Bool) (xs : List A) → (b ≡ true → ⊥) → cond b xs [] ≡ []
cond_nil true xs h = absurd (h refl)
cond_nil false xs h = refl

-- the fuel is enough
pub turns_fuel : (V : Document → List Way) (k j : ℕ) (d : Document) → item_count d ≤ k → item_count d ≤ j → turns V k d ≡ turns V j d
turns_fuel V zero zero d p q = refl
turns_fuel V zero (suc j) d p q =
    let e = flat_none (λ v. cond (ltb (item_count v.rest) (item_count d)) (map (then_way v) (turns V j v.rest)) []) (V d)
    (λ v. cond_nil (ltb (item_count v.rest) (item_count d)) _ (λ t. let l = ltb-true _ _ t in omega arith)) in
    rw e
turns_fuel V (suc k) zero d p q =
    let e = flat_none (λ v. cond (ltb (item_count v.rest) (item_count d)) (map (then_way v) (turns V k v.rest)) []) (V d)
    (λ v. cond_nil (ltb (item_count v.rest) (item_count d)) _ (λ t. let l = ltb-true _ _ t in omega arith)) in
    rw e
turns_fuel V (suc k) (suc j) d p q =
    ap (λ xs. xs ++ no_item_way d ∷ [])
    (flat_same (λ v. cond (ltb (item_count v.rest) (item_count d)) (map (then_way v) (turns V k v.rest)) [])
    (λ v. cond (ltb (item_count v.rest) (item_count d)) (map (then_way v) (turns V j v.rest)) []) (V d)
    (λ v m. cond_same (ltb (item_count v.rest) (item_count d)) _ _ (λ t. let l = ltb-true _ _ t in
    ap (map (then_way v)) (turns_fuel V k j v.rest (omega arith) (omega arith)))))

pub cond_in : {A : Type 0} (b : Bool) (x : A) (xs : List A) → b ≡ true → IsOneOf x xs → IsOneOf x (cond b xs [])
cond_in true x xs e h = h
cond_in false x xs e h = cc

star_step : (V : Document → List Way) (d : Document) (v u : Way) → IsOneOf v (V d) → item_count v.rest < item_count d → IsOneOf u (repetition V v.rest) → IsOneOf (then_way v u) (repetition V d)
star_step V d v u h lt m = go (item_count d) refl
  where
    go : (k : ℕ) → item_count d ≡ k → IsOneOf (then_way v u) (turns V k d)
    go zero e = absurd (omega arith)
    go (suc k) e =
        append_left (then_way v u) _ (no_item_way d ∷ [])
        (flat_mem (λ w. cond (ltb (item_count w.rest) (item_count d)) (map (then_way w) (turns V k w.rest)) []) (then_way v u) v (V d) h
        (cond_in (ltb (item_count v.rest) (item_count d)) (then_way v u) _ (lt-ltb _ _ lt)
        (map_mem (then_way v) u (turns V k v.rest) (subst (IsOneOf u) (turns_fuel V (item_count v.rest) k v.rest (omega arith) (omega arith)) m))))

star_stop : (V : Document → List Way) (d : Document) → IsOneOf (no_item_way d) (repetition V d)
star_stop V d = go (item_count d)
  where
    go : (k : ℕ) → IsOneOf (no_item_way d) (turns V k d)
    go zero = inl refl
    go (suc k) = append_right (no_item_way d) _ (no_item_way d ∷ []) (inl refl)

has_last : {A : Type 0} (x : A) (xs : List A) → IsOneOf x (xs ++ x ∷ [])
has_last x xs = append_right x xs (x ∷ []) (inl refl)

-- a way of this list that class_has t and leaves r
abbrev pub HasWay : List Way → Document → Document → Type 0
HasWay ws t r = (w : Way) × IsOneOf w ws × (w.taken ≡ t) × (w.rest ≡ r)

abbrev pub Enough : Definitions → Tree → Document → Type 0
Enough E T t = (n : ℕ) × ((m : ℕ) → n ≤ m → (r : Document) → HasWay (ways_within E m T (join t r)) t r)

seq_has : (V W : Document → List Way) (a b d r : Document) → join a b ≡ d → HasWay (V (join a (join b r))) a (join b r) → HasWay (W (join b r)) b r →
    HasWay (in_turn V W (join d r)) d r
seq_has V W a b d r e A B =
    let i : join a (join b r) ≡ join d r = sym (join_assoc a b r) ∙ ap (λ x. join x r) e in (
      then_way A.0 B.0,
      flat_mem (λ v. map (then_way v) (W v.rest)) (then_way A.0 B.0) A.0 (V (join d r)) (subst (λ x. IsOneOf A.0 (V x)) i A.1)
          (map_mem (then_way A.0) B.0 (W (A.0).rest) (subst (λ x. IsOneOf B.0 (W x)) (sym A.3) B.1)),
      ap (λ x. join x (B.0).taken) A.2 ∙ ap (join a) B.2 ∙ e,
      B.3,
    )

star_has : (V : Document → List Way) (a b d r : Document) → join a b ≡ d → HasItem a → HasWay (V (join a (join b r))) a (join b r) → HasWay (repetition V (join b r)) b r →
    HasWay (repetition V (join d r)) d r
star_has V a b d r e s A B =
    let i : join a (join b r) ≡ join d r = sym (join_assoc a b r) ∙ ap (λ x. join x r) e in (
      then_way A.0 B.0,
      subst (λ x. IsOneOf (then_way A.0 B.0) (repetition V x)) i
          (star_step V (join a (join b r)) A.0 B.0 A.1 (subst (λ x. item_count x < item_count (join a (join b r))) (sym A.3) (item_count_some a (join b r) s))
          (subst (λ x. IsOneOf B.0 (repetition V x)) (sym A.3) B.1)),
      ap (λ x. join x (B.0).taken) A.2 ∙ ap (join a) B.2 ∙ e,
      B.3,
    )

elem_has : (c : LabelClass) (V : Document → List Way) (l : List ℕ) (k r : Document) → class_has c l ≡ true → HasWay (V k) k empty →
    HasWay (element_ways c V (element l k r)) (element l k empty) r
elem_has c V l k r t A =
    let w : Way = record { bindings = (A.0).bindings; taken = element l k empty; rest = r } in (
      w,
      cond_in (class_has c l) w _ t
          (flat_mem (λ v. cond (is_whole v) (record { bindings = v.bindings; taken = element l k empty; rest = r } ∷ []) []) w A.0 (V k) A.1
          (cond_in (is_whole A.0) w _ (ends A.0 A.3) (inl refl))),
      refl,
      refl,
    )
  where
    ends : (v : Way) → v.rest ≡ empty → is_whole v ≡ true
    ends v e = ap (λ x. is_whole (record v { rest = x })) e

name_has : (E : Definitions) (x : List ℕ) (T : Tree) (t : Document) → body E x ≡ Some T → (n : ℕ) →
    ((m : ℕ) → n ≤ m → (r : Document) → HasWay (ways_within E m T (join t r)) t r) →
    (m : ℕ) → n + 1 ≤ m → (r : Document) → HasWay (ways_within E m (Name x) (join t r)) t r
name_has E x T t e n f zero h r = absurd (omega arith)
name_has E x T t e n f (suc m) h r = rw e (f m (omega arith) r)

pub complete : (E : Definitions) {T : Tree} {t : Document} → Fits E T t → Enough E T t
complete E F.fits_empty = (0, λ m h r. (no_item_way r, inl refl, refl, refl))
complete E (F.fits_text {s}) = (0, λ m h r. (record { bindings = []; taken = text s empty; rest = r }, inl refl, refl, refl))
complete E (F.fits_words {w} {s} e) = (0, λ m h r. (record { bindings = []; taken = text s empty; rest = r }, rw e (inl refl), refl, refl))
complete E (F.fits_elem {c} {T} {l} {d} t f) = let A = complete E f in
    (A.0, λ m h r. elem_has c (ways_within E m T) l d r t (subst (λ x. HasWay (ways_within E m T x) d empty) (join_empty-right d) (A.1 m h empty)))
complete E (F.fits_name {x} {T} {d} e f) = let A = complete E f in (A.0 + 1, λ m h r. name_has E x T d e A.0 A.1 m h r)
complete E (F.fits_seq {T} {U} {d} a b e f g) = let A = complete E f in let B = complete E g in
    (A.0 + B.0, λ m h r. seq_has (ways_within E m T) (ways_within E m U) a b d r e (A.1 m (omega arith) (join b r)) (B.1 m (omega arith) r))
complete E (F.fits_left {T} {U} f) = let A = complete E f in
    (A.0, λ m h r. let W = A.1 m h r in (W.0, append_left W.0 _ _ W.1, W.2, W.3))
complete E (F.fits_right {T} {U} f) = let A = complete E f in
    (A.0, λ m h r. let W = A.1 m h r in (W.0, append_right W.0 _ _ W.1, W.2, W.3))
complete E F.fits_no_turn = (0, λ m h r. (no_item_way r, star_stop _ r, refl, refl))
complete E (F.fits_turn {T} {d} a b e s f g) = let A = complete E f in let B = complete E g in
    (A.0 + B.0, λ m h r. star_has (ways_within E m T) a b d r e (filled a s) (A.1 m (omega arith) (join b r)) (B.1 m (omega arith) r))
complete E (F.fits_plus {T} {d} a b e f g) = let A = complete E f in let B = complete E g in
    (A.0 + B.0, λ m h r. seq_has (ways_within E m T) (repetition (ways_within E m T)) a b d r e (A.1 m (omega arith) (join b r)) (B.1 m (omega arith) r))
complete E F.fits_absent = (0, λ m h r. (no_item_way r, has_last (no_item_way r) _, refl, refl))
complete E (F.fits_present f) = let A = complete E f in
    (A.0, λ m h r. let W = A.1 m h r in (W.0, append_left W.0 _ _ W.1, W.2, W.3))
complete E (F.fits_val {x} f) = let A = complete E f in
    (A.0, λ m h r. let W = A.1 m h r in (binding x W.0, map_mem (binding x) W.0 _ W.1, W.2, W.3))
