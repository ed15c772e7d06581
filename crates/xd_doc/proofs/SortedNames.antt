-- Names in order, each once, are the same where the same are among them.
use Rattle.std.proofs.Common.{◌≡◌, ℕ, Bool, true, false, ◌||◌, List, [], ◌∷◌, nat_eq, refl, ap, sym, subst, ◌∙◌}
use Rattle.std.specs.List.{AllByRecursion}
use Rattle.std.specs.List.Sorted.{IsStrictlySortedBy}
use Rattle.std.specs.Ordering.{nat_cmp}
use Rattle.std.specs.Cmp.Lexicographic.{slice_cmp, pointwise, texts_ties}
use Rattle.std.proofs.lemmas.Cmp.{nat_list_cmp_total}
use Rattle.std.proofs.lemmas.Slice.Eq.{bytes_eq-Decides}
use Rattle.std.specs.declared.cmp.Ordering.{Ordering}
use Rattle.std.specs.declared.cmp.Ordering.TheVariants.{Less, Equal, Greater}
use Rattle.xd_doc.specs.Classes.{is_named}

abbrev pub R : List ℕ → List ℕ → Ordering
R x y = slice_cmp nat_cmp x y

pub same_is : (x y : List ℕ) → pointwise nat_eq x y ≡ true → x ≡ y
same_is x y h = (bytes_eq-Decides x y).0 h

pub is_same : (x : List ℕ) → pointwise nat_eq x x ≡ true
is_same x = (bytes_eq-Decides x x).1 refl

less_apart : (x y : List ℕ) → R x y ≡ Less → pointwise nat_eq x y ≡ false
less_apart x y h = texts_ties x y ∙ ap (λ (o : Ordering). is_equal o) h
  where
    is_equal : Ordering → Bool
    is_equal Less = false
    is_equal Equal = true
    is_equal Greater = false

turned : (x y : List ℕ) → pointwise nat_eq x y ≡ false → pointwise nat_eq y x ≡ false
turned x y h = go (pointwise nat_eq y x) refl
  where
    go : (b : Bool) → pointwise nat_eq y x ≡ b → b ≡ false
    go false e = refl
    go true e = let q = same_is y x e in let k : pointwise nat_eq x y ≡ true = subst (λ z. pointwise nat_eq x z ≡ true) (sym q) (is_same x) in cc

-- a word before all of these is none of them
not_among : (x : List ℕ) (ys : List (List ℕ)) → AllByRecursion (λ y. R x y ≡ Less) ys → is_named ys x ≡ false
not_among x [] a = refl
not_among x (y ∷ ys) a =
    let e = turned x y (less_apart x y a.0) in let k = not_among x ys a.1 in rw (e, k) refl

below_all : (x y : List ℕ) (ys : List (List ℕ)) → R x y ≡ Less → AllByRecursion (λ z. R y z ≡ Less) ys → AllByRecursion (λ z. R x z ≡ Less) ys
below_all x y [] h a = tt
below_all x y (z ∷ zs) h a = (nat_list_cmp_total.trans x y z h a.0, below_all x y zs h a.1)

pub has_first : (x : List ℕ) (xs : List (List ℕ)) → is_named (x ∷ xs) x ≡ true
has_first x xs = rw (is_same x) refl

equal_same : (x y : List ℕ) → R x y ≡ Equal → x ≡ y
equal_same x y h = same_is x y (texts_ties x y ∙ ap (λ (o : Ordering). is_equal o) h)
  where
    is_equal : Ordering → Bool
    is_equal Less = false
    is_equal Equal = true
    is_equal Greater = false

pub or_false : (b : Bool) → (b || false) ≡ b
or_false true = refl
or_false false = refl

-- without their first word, lists with the same words have the same words
tails : (x : List ℕ) (xs ys : List (List ℕ)) → AllByRecursion (λ z. R x z ≡ Less) xs → AllByRecursion (λ z. R x z ≡ Less) ys →
    ((l : List ℕ) → is_named (x ∷ xs) l ≡ is_named (x ∷ ys) l) → (l : List ℕ) → is_named xs l ≡ is_named ys l
tails x xs ys a b h l = go (pointwise nat_eq x l) refl (h l)
  where
    go : (c : Bool) → pointwise nat_eq x l ≡ c → (c || is_named xs l) ≡ (c || is_named ys l) → is_named xs l ≡ is_named ys l
    go false e k = k
    go true e k =
        let q = same_is x l e in
        subst (λ w. is_named xs w ≡ is_named ys w) q (not_among x xs a ∙ sym (not_among x ys b))

pub same_words : (xs ys : List (List ℕ)) → IsStrictlySortedBy R xs → IsStrictlySortedBy R ys → ((l : List ℕ) → is_named xs l ≡ is_named ys l) → xs ≡ ys
unfolding IsStrictlySortedBy
same_words [] [] s t h = refl
same_words [] (y ∷ ys) s t h = let e = h y in let k = has_first y ys in cc
same_words (x ∷ xs) [] s t h = let e = h x in let k = has_first x xs in cc
same_words (x ∷ xs) (y ∷ ys) s t h = go (R x y) refl (λ k. same_words xs ys s.1 t.1 k)
  where
    go : (o : Ordering) → R x y ≡ o → (((l : List ℕ) → is_named xs l ≡ is_named ys l) → xs ≡ ys) → (x ∷ xs) ≡ (y ∷ ys)
    go Less e rec =
        let k = has_first x xs in
        let n = not_among x (y ∷ ys) (e, below_all x y ys e t.0) in
        let q = h x in cc
    go Equal e rec =
        let q = equal_same x y e in
        let b = subst (λ w. AllByRecursion (λ z. R w z ≡ Less) ys) (sym q) t.0 in
        let i = rec (tails x xs ys s.0 b (λ l. h l ∙ ap (λ w. is_named (w ∷ ys) l) (sym q))) in cc
    go Greater e rec =
        let g : R y x ≡ Less = nat_list_cmp_total.antisymm y x ∙ ap (λ (o : Ordering). back o) e in
        let k = has_first y ys in
        let n = not_among y (x ∷ xs) (g, below_all y x xs g s.0) in
        let q = h y in cc
      where
        back : Ordering → Ordering
        back Less = Greater
        back Equal = Equal
        back Greater = Less
