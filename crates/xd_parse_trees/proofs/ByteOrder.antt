-- The names of a class stand in byte order, each once.
use Rattle.std.proofs.Common.{◌≡◌, ◌<◌, ◌≤◌, ◌⊎◌, inl, inr, arith, suc, length, ℕ, Bool, true, false, ◌||◌, List, [], ◌∷◌, nat_eq, refl, ap, sym, subst, ◌∙◌}
use Rattle.std.specs.List.{AllByRecursion}
use Rattle.std.specs.List.Sorted.{IsStrictlySortedBy}
use Rattle.std.specs.Ordering.{nat_cmp}
use Rattle.std.specs.Cmp.Lexicographic.{slice_cmp, pointwise, texts_ties}
use Rattle.std.proofs.lemmas.Cmp.{nat_list_cmp_total}
use Rattle.std.proofs.lemmas.Slice.Eq.{bytes_eq-Decides}
use Rattle.std.specs.declared.cmp.Ordering.{Ordering}
use Rattle.std.specs.declared.cmp.Ordering.TheVariants.{Less, Equal, Greater}
use Rattle.xd_doc.specs.Classes.{NameClass}
use Rattle.xd_doc.specs.ByteOrder.{put_word, in_byte_order}
use Rattle.xd_doc.specs.ClassForms.{names_label}
use Rattle.xd_doc.proofs.SortedNames.{same_words}
use Rattle.xd_doc.proofs.Bools.{or_swap, or_twice}
use Rattle.xd_syntax.specs.Table.{IsWordsNode}
use Rattle.xd_parse_trees.specs.Merged.{class_of}

abbrev R : List ℕ → List ℕ → Ordering
R x y = slice_cmp nat_cmp x y

is_equal : Ordering → Bool
is_equal Less = false
is_equal Equal = true
is_equal Greater = false

back : Ordering → Ordering
back Less = Greater
back Equal = Equal
back Greater = Less

equal_same : (x y : List ℕ) → R x y ≡ Equal → x ≡ y
unfolding is_equal
equal_same x y h = (bytes_eq-Decides x y).0 (texts_ties x y ∙ ap is_equal h)

after_less : (x w : List ℕ) → R w x ≡ Greater → R x w ≡ Less
unfolding back
after_less x w e = nat_list_cmp_total.antisymm x w ∙ ap back e

-- a word before the first of others, as it, or with what comes of those after it
abbrev placed : List ℕ → List ℕ → List (List ℕ) → Ordering → List (List ℕ)
placed w x xs o = elim o as (λ _. List (List ℕ)) [ Less ↦ w ∷ (x ∷ xs) | Equal ↦ x ∷ xs | Greater ↦ x ∷ put_word w xs ]

all_put : (P : List ℕ → Type 0) (w : List ℕ) (xs : List (List ℕ)) → P w → AllByRecursion P xs → AllByRecursion P (put_word w xs)
all_put P w [] p a = (p, tt)
all_put P w (x ∷ xs) p a = go (R w x) (all_put P w xs p a.1)
  where
    go : (o : Ordering) → AllByRecursion P (put_word w xs) → AllByRecursion P (placed w x xs o)
    go Less i = (p, a)
    go Equal i = a
    go Greater i = (a.0, i)

below_all : (x y : List ℕ) (ys : List (List ℕ)) → R x y ≡ Less → AllByRecursion (λ z. R y z ≡ Less) ys → AllByRecursion (λ z. R x z ≡ Less) ys
below_all x y [] h a = tt
below_all x y (z ∷ zs) h a = (nat_list_cmp_total.trans x y z h a.0, below_all x y zs h a.1)

sorted_put : (w : List ℕ) (xs : List (List ℕ)) → IsStrictlySortedBy R xs → IsStrictlySortedBy R (put_word w xs)
unfolding IsStrictlySortedBy
sorted_put w [] s = (tt, tt)
sorted_put w (x ∷ xs) s = go (R w x) refl (sorted_put w xs s.1)
  where
    go : (o : Ordering) → R w x ≡ o → IsStrictlySortedBy R (put_word w xs) → IsStrictlySortedBy R (placed w x xs o)
    go Less e i = ((e, below_all w x xs e s.0), s)
    go Equal e i = s
    go Greater e i = (all_put (λ z. R x z ≡ Less) w xs (after_less x w e) s.0, i)

names_put : (w : List ℕ) (xs : List (List ℕ)) (l : List ℕ) → names_label (put_word w xs) l ≡ names_label (w ∷ xs) l
names_put w [] l = refl
names_put w (x ∷ xs) l = go (R w x) refl (names_put w xs l)
  where
    go : (o : Ordering) → R w x ≡ o → names_label (put_word w xs) l ≡ names_label (w ∷ xs) l → names_label (placed w x xs o) l ≡ names_label (w ∷ (x ∷ xs)) l
    go Less e i = refl
    go Equal e i = subst (λ v. names_label (x ∷ xs) l ≡ (pointwise nat_eq v l || names_label (x ∷ xs) l)) (sym (equal_same w x e)) (or_twice (pointwise nat_eq x l) (names_label xs l))
    go Greater e i = ap (λ b. pointwise nat_eq x l || b) i ∙ or_swap (pointwise nat_eq x l) (pointwise nat_eq w l) (names_label xs l)

sorted_order : (ws : List (List ℕ)) → IsStrictlySortedBy R (in_byte_order ws)
sorted_order [] = unfold IsStrictlySortedBy in tt
sorted_order (w ∷ ws) = sorted_put w (in_byte_order ws) (sorted_order ws)

names_order : (ws : List (List ℕ)) (l : List ℕ) → names_label (in_byte_order ws) l ≡ names_label ws l
names_order [] l = refl
names_order (w ∷ ws) l = names_put w (in_byte_order ws) l ∙ ap (λ b. pointwise nat_eq w l || b) (names_order ws l)

-- a class that names the same labels is the class of these words
pub class_made : (c : NameClass) (ws : List (List ℕ)) (except : Bool) → IsStrictlySortedBy R c.names → ((l : List ℕ) → names_label c.names l ≡ names_label ws l) → c.except ≡ except → c ≡ class_of except ws
class_made c ws except p h e =
    ap (λ ns. let k : NameClass = record { names = ns; except = c.except } in k) (same_words c.names (in_byte_order ws) p (sorted_order ws) (λ l. h l ∙ sym (names_order ws l)))
    ∙ ap (λ b. let k : NameClass = record { names = in_byte_order ws; except = b } in k) e

-- ---- nodes of texts
some_put : (w : List ℕ) (xs : List (List ℕ)) → 1 ≤ length (put_word w xs)
some_put w [] = omega arith
some_put w (x ∷ xs) = go (R w x)
  where
    go : (o : Ordering) → 1 ≤ length (placed w x xs o)
    go Less = omega arith
    go Equal = omega arith
    go Greater = omega arith

none_some : (m : ℕ) → m ≡ 0 → 0 < m → ⊥
none_some m e h = omega arith

two_one : (m k : ℕ) → m ≡ suc (suc k) → m ≡ 1 → ⊥
two_one m k e h = omega arith

-- one text, or all but at least one
pub words_node : (except : Bool) (m : ℕ) (ws : List (List ℕ)) → m ≡ length ws → 0 < m → (except ≡ true) ⊎ (m ≡ 1) → IsWordsNode (class_of except ws)
words_node except m [] e h one = absurd (none_some m e h)
words_node except m (w ∷ []) e h one = (omega arith, inr refl)
words_node except m (w ∷ (v ∷ vs)) e h (inl q) = (some_put w (in_byte_order (v ∷ vs)), inl q)
words_node except m (w ∷ (v ∷ vs)) e h (inr q) = absurd (two_one m (length vs) e q)
