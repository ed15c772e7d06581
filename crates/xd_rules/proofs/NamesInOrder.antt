-- Names put in byte order, and of names in order those that pass a test.
use Rattle.std.proofs.Common.{◌≡◌, ℕ, Bool, true, false, ◌||◌, ◌&&◌, cond, List, [], ◌∷◌, flat_map, nat_eq, refl, sym, ap, subst, ◌∙◌}
use Rattle.std.specs.List.{AllByRecursion, filter}
use Rattle.std.specs.List.Sorted.{IsStrictlySortedBy}
use Rattle.std.specs.Cmp.Lexicographic.{pointwise, texts_ties}
use Rattle.std.proofs.lemmas.Cmp.{nat_list_cmp_total}
use Rattle.std.proofs.lemmas.List.Kept.{IsStrictlySortedBy-filter}
use Rattle.std.proofs.lemmas.Slice.Eq.{bytes_eq-Decides}
use Rattle.std.specs.declared.cmp.Ordering.{Ordering}
use Rattle.std.specs.declared.cmp.Ordering.TheVariants.{Less, Equal, Greater}
use Rattle.xd_doc.specs.Classes.{is_named}
use Rattle.xd_doc.specs.ByteOrder.{put_word, in_byte_order}
use Rattle.xd_doc.proofs.Bools.{or_swap, or_twice}
use Rattle.xd_doc.proofs.SortedNames.{R, same_is, same_words}
use Rattle.xd_rules.specs.Heads.{Head, HeadKind, Named, labels_of, texts_of, named_in}
use Rattle.xd_rules.specs.Listed.{AreNames, IsSorted}

equal_same : (x y : List ℕ) → R x y ≡ Equal → x ≡ y
equal_same x y h = (bytes_eq-Decides x y).0 (texts_ties x y ∙ ap (λ (o : Ordering). is_equal o) h)
  where
    is_equal : Ordering → Bool
    is_equal Less = false
    is_equal Equal = true
    is_equal Greater = false

abbrev placed : List ℕ → List ℕ → List (List ℕ) → Ordering → List (List ℕ)
placed w v vs o = elim o as (λ _. List (List ℕ)) [ Less ↦ w ∷ (v ∷ vs) | Equal ↦ v ∷ vs | Greater ↦ v ∷ put_word w vs ]

put_all : (P : List ℕ → Type 0) (w : List ℕ) (vs : List (List ℕ)) → P w → AllByRecursion P vs → AllByRecursion P (put_word w vs)
put_all P w [] p a = (p, tt)
put_all P w (v ∷ vs) p a = go (R w v) (put_all P w vs p a.1)
  where
    go : (o : Ordering) → AllByRecursion P (put_word w vs) → AllByRecursion P (placed w v vs o)
    go Less i = (p, a)
    go Equal i = a
    go Greater i = (a.0, i)

put_sorted : (w : List ℕ) (vs : List (List ℕ)) → IsStrictlySortedBy R vs → IsStrictlySortedBy R (put_word w vs)
unfolding IsStrictlySortedBy
put_sorted w [] s = (tt, tt)
put_sorted w (v ∷ vs) s = go (R w v) refl (put_sorted w vs s.1)
  where
    below_all : (x y : List ℕ) (ys : List (List ℕ)) → R x y ≡ Less → AllByRecursion (λ z. R y z ≡ Less) ys → AllByRecursion (λ z. R x z ≡ Less) ys
    below_all x y [] h a = tt
    below_all x y (z ∷ zs) h a = (nat_list_cmp_total.trans x y z h a.0, below_all x y zs h a.1)

    back : Ordering → Ordering
    back Less = Greater
    back Equal = Equal
    back Greater = Less

    go : (o : Ordering) → R w v ≡ o → IsStrictlySortedBy R (put_word w vs) → IsStrictlySortedBy R (placed w v vs o)
    go Less e i = ((e, below_all w v vs e s.0), s)
    go Equal e i = s
    go Greater e i = (put_all (λ z. R v z ≡ Less) w vs (nat_list_cmp_total.antisymm v w ∙ ap (λ (o : Ordering). back o) e) s.0, i)

pub order_sorted : (ws : List (List ℕ)) → IsStrictlySortedBy R (in_byte_order ws)
unfolding IsStrictlySortedBy
order_sorted [] = tt
order_sorted (w ∷ ws) = put_sorted w (in_byte_order ws) (order_sorted ws)

put_named : (w l : List ℕ) (vs : List (List ℕ)) → is_named (put_word w vs) l ≡ (pointwise nat_eq w l || is_named vs l)
put_named w l [] = refl
put_named w l (v ∷ vs) = go (R w v) refl (put_named w l vs)
  where
    go : (o : Ordering) → R w v ≡ o → is_named (put_word w vs) l ≡ (pointwise nat_eq w l || is_named vs l) → is_named (placed w v vs o) l ≡ (pointwise nat_eq w l || (pointwise nat_eq v l || is_named vs l))
    go Less e i = refl
    go Equal e i =
        let q = equal_same w v e in
        or_twice (pointwise nat_eq v l) (is_named vs l) ∙ ap (λ (x : List ℕ). pointwise nat_eq x l || (pointwise nat_eq v l || is_named vs l)) (sym q)
    go Greater e i = ap (λ (b : Bool). pointwise nat_eq v l || b) i ∙ or_swap (pointwise nat_eq v l) (pointwise nat_eq w l) (is_named vs l)

pub order_named : (ws : List (List ℕ)) (l : List ℕ) → is_named (in_byte_order ws) l ≡ is_named ws l
order_named [] l = refl
order_named (w ∷ ws) l = put_named w l (in_byte_order ws) ∙ ap (λ (b : Bool). pointwise nat_eq w l || b) (order_named ws l)

-- of the same names there is one list in byte order
pub sorted_is : (names sorted : List (List ℕ)) → IsSorted names sorted → sorted ≡ in_byte_order names
sorted_is names sorted s = same_words sorted (in_byte_order names) s.order (order_sorted names) (λ l. s.same l ∙ sym (order_named names l))

pub named_in-names : {S : Type 0} (hs : List (Head S)) → AreNames hs (named_in hs)
named_in-names {S} hs =
    let f : (HeadKind → List (List ℕ)) → List (List ℕ) = λ g. flat_map (λ (h : Head S). g h.kind) hs in
    record {
      labels = record { order = order_sorted (f labels_of); same = order_named (f labels_of) };
      texts = record { order = order_sorted (f texts_of); same = order_named (f texts_of) };
    }

pub names_are : {S : Type 0} (hs : List (Head S)) (named : Named) → AreNames hs named → named ≡ named_in hs
names_are {S} hs named names =
    let f : (HeadKind → List (List ℕ)) → List (List ℕ) = λ g. flat_map (λ (h : Head S). g h.kind) hs in
    ap (λ (x : List (List ℕ)). record { labels = x; texts = named.texts }) (sorted_is (f labels_of) named.labels names.labels)
    ∙ ap (λ (x : List (List ℕ)). record { labels = in_byte_order (f labels_of); texts = x }) (sorted_is (f texts_of) named.texts names.texts)

-- whether a name is among those that pass a test
pub kept_named : (p : List ℕ → Bool) (xs : List (List ℕ)) (l : List ℕ) → is_named (filter p xs) l ≡ (p l && is_named xs l)
kept_named p [] l = none (p l)
  where
    none : (b : Bool) → false ≡ (b && false)
    none true = refl
    none false = refl
kept_named p (x ∷ xs) l = go (p x) refl (kept_named p xs l)
  where
    or_same : (q b r : Bool) → (q ≡ true → b ≡ true) → (q || (b && r)) ≡ (b && (q || r))
    or_same true b r h = let e = h refl in rw e refl
    or_same false true r h = refl
    or_same false false r h = refl

    or_none : (q b r : Bool) → (q ≡ true → b ≡ false) → (b && r) ≡ (b && (q || r))
    or_none true b r h = let e = h refl in rw e refl
    or_none false b r h = refl

    go : (b : Bool) → p x ≡ b → is_named (filter p xs) l ≡ (p l && is_named xs l) → is_named (cond b (x ∷ filter p xs) (filter p xs)) l ≡ (p l && (pointwise nat_eq x l || is_named xs l))
    go true e h = rw h (or_same (pointwise nat_eq x l) (p l) (is_named xs l) (λ q. subst (λ (w : List ℕ). p w ≡ true) (same_is x l q) e))
    go false e h = h ∙ or_none (pointwise nat_eq x l) (p l) (is_named xs l) (λ q. subst (λ (w : List ℕ). p w ≡ false) (same_is x l q) e)

-- of names in order, those that are among others in order, all of which are among the first, are
-- these
pub kept_all : (xs ys : List (List ℕ)) → IsStrictlySortedBy R xs → IsStrictlySortedBy R ys → ((l : List ℕ) → is_named ys l ≡ true → is_named xs l ≡ true) → filter (is_named ys) xs ≡ ys
kept_all xs ys s t h =
    same_words (filter (is_named ys) xs) ys (IsStrictlySortedBy-filter R (is_named ys) xs s) t (λ l. kept_named (is_named ys) xs l ∙ go (is_named ys l) (is_named xs l) (h l))
  where
    go : (b c : Bool) → (b ≡ true → c ≡ true) → (b && c) ≡ b
    go true c k = k refl
    go false c k = refl
