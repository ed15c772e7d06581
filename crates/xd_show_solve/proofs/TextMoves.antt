-- Laws of moves on texts as products.
use Rattle.std.proofs.Common.{◌≡◌, ◌⊎◌, ◌↔◌, inl, inr, ℕ, Bool, true, false, ◌||◌, refl, sym, ap, subst, List, [], ◌∷◌, ◌++◌, Some}
use Rattle.std.specs.List.{list_any}
use Rattle.std.proofs.lemmas.Bool.{and_from}
use Rattle.xd_doc.specs.Document.{Document, empty, text, element, join, has_item}
use Rattle.xd_doc.specs.Classes.{class_has}
use Rattle.xd_doc.proofs.Bools.{and_parts}
use Rattle.xd_doc.proofs.Lists.{all_push}
use Rattle.xd_auto.specs.declared.auto.TextMove.{TextMove}
use Rattle.xd_auto.specs.Automaton.{Automaton, accepts, takes_word}
use Rattle.xd_syntax.specs.Tree.{Tree}
use Rattle.xd_same_types.specs.Same.{Meaning, TakesItem, IsTextOf, IsTextsType}
use Rattle.xd_same_types.specs.Same.{HasTops}
use Rattle.xd_show_solve.specs.Equations.{Product, Unknowns, ProductTakes}
use Rattle.xd_show_solve.specs.Levels.{TextsTake, HasPlace, known_of, IsTextProduct, AreTextProducts}
use Rattle.xd_show_solve.proofs.SideLaws.{a_product}
use Rattle.xd_same_types.proofs.Facts.{iff_then, iff_back, or_same}
use Rattle.xd_show_solve.proofs.SumLaws.{some_append}

text_item : (h : List ℕ → Bool) (d : Document) → IsTextOf h d → has_item d ≡ true
text_item h empty f = absurd f
text_item h (text s r) f = refl
text_item h (element l c r) f = absurd f

text_out : (a : Automaton) (X : Unknowns) (i : ℕ) (m : TextMove) → ((d : Document) → (X i d ≡ true) ↔ (accepts a d m.rest ≡ true)) →
    (u v d : Document) → join u v ≡ d → IsTextOf (class_has m.words) u → X i v ≡ true → TextsTake a (m ∷ []) d
text_out a X i m g empty v d e f x = absurd f
text_out a X i m g (element l w r) v d e f x = absurd f
text_out a X i m g (text s r) v d e f x =
    let rest : join r v ≡ v = ap (λ z. join z v) f.0 in
    let all = and_from (class_has m.words s) (accepts a v m.rest) f.1 ((g v).0 x) in
    subst (TextsTake a (m ∷ [])) e (subst (λ z. TextsTake a (m ∷ []) (text s z)) (sym rest) (or_one (takes_word a s v m) all))
  where
    or_one : (b : Bool) → b ≡ true → (b || false) ≡ true
    or_one b q = subst (λ x. (x || false) ≡ true) (sym q) refl

text_in : (a : Automaton) (N : Meaning) (X : Unknowns) (T : Tree) (i : ℕ) (m : TextMove) → IsTextsType (class_has m.words) T → ((d : Document) → (X i d ≡ true) ↔ (accepts a d m.rest ≡ true)) →
    (d : Document) → TextsTake a (m ∷ []) d → ProductTakes N X d (a_product T i)
text_in a N X T i m t g empty f = absurd f
text_in a N X T i m t g (element l w r) f = absurd f
text_in a N X T i m t g (text s r) f =
    let one = one_or (takes_word a s r m) f in
    let p = and_parts (class_has m.words s) (accepts a r m.rest) one in
    (text s empty, r, refl, (t.fits N (text s empty)).1 (refl, p.0), (g r).1 p.1)
  where
    one_or : (b : Bool) → (b || false) ≡ true → b ≡ true
    one_or true q = refl
    one_or false q = q

pub text_product : (a : Automaton) (places : _) (m : TextMove) (T : Tree) (i : ℕ) → IsTextsType (class_has m.words) T → known_of places m.rest ≡ Some i → IsTextProduct a places m (a_product T i)
text_product a places m T i t p = record {
  takes = λ N X is d. (
    λ f. only f (λ g. text_out a X i m (is m.rest i p) g.0 g.1 d g.2 ((t.fits N g.0).0 g.3) g.4),
    λ f. inl (text_in a N X T i m t (is m.rest i p) d f),
  );
  item = record { item = λ N d f. text_item (class_has m.words) d ((t.fits N d).0 f) };
  place = (m.rest, p);
  tops = t.tops;
}
  where
    only : {A B : Type 0} → A ⊎ ⊥ → (A → B) → B
    only (inl x) f = f x
    only (inr n) f = absurd n

texts_append : (a : Automaton) (ms : List TextMove) (m : TextMove) (d : Document) → TextsTake a (ms ++ m ∷ []) d ↔ (TextsTake a ms d ⊎ TextsTake a (m ∷ []) d)
texts_append a ms m empty = (λ f. inl f, λ f. none f)
  where
    none : ⊥ ⊎ ⊥ → ⊥
    none (inl n) = n
    none (inr n) = n
texts_append a ms m (element l c r) = (λ f. inl f, λ f. none f)
  where
    none : ⊥ ⊎ ⊥ → ⊥
    none (inl n) = n
    none (inr n) = n
texts_append a ms m (text t r) = any_append (takes_word a t r) ms
  where
    any_append : (p : TextMove → Bool) (xs : List TextMove) → (list_any p (xs ++ m ∷ []) ≡ true) ↔ ((list_any p xs ≡ true) ⊎ (list_any p (m ∷ []) ≡ true))
    any_append p [] = (λ h. inr h, λ h. go h)
      where
        go : (false ≡ true) ⊎ (list_any p (m ∷ []) ≡ true) → list_any p (m ∷ []) ≡ true
        go (inl n) = cc
        go (inr h) = h
    any_append p (x ∷ xs) = by_first (p x) (any_append p xs)
      where
        by_first : (b : Bool) → (list_any p (xs ++ m ∷ []) ≡ true) ↔ ((list_any p xs ≡ true) ⊎ (list_any p (m ∷ []) ≡ true)) →
            ((b || list_any p (xs ++ m ∷ [])) ≡ true) ↔ (((b || list_any p xs) ≡ true) ⊎ (list_any p (m ∷ []) ≡ true))
        by_first true i = (λ h. inl refl, λ h. refl)
        by_first false i = i

pub text_products_none : (a : Automaton) (places : _) → AreTextProducts a places [] []
text_products_none a places = record { takes = λ N X p d. (λ f. absurd f, λ f. none d f); items = tt; placed = tt; tops = λ known. tt }
  where
    none : (d : Document) → TextsTake a [] d → ⊥
    none empty f = f
    none (text t r) f = cc
    none (element l c r) f = f

pub text_products_more : (a : Automaton) (places : _) (ms : List TextMove) (ps : List Product) (m : TextMove) (p : Product) →
    AreTextProducts a places ms ps → IsTextProduct a places m p → AreTextProducts a places (ms ++ m ∷ []) (ps ++ p ∷ [])
text_products_more a places ms ps m p h g = record {
  takes = λ N X q d. iff_then (some_append N X d ps (p ∷ [])) (iff_then (or_same (h.takes N X q d) (g.takes N X q d)) (iff_back (texts_append a ms m d)));
  items = all_push (λ (r : Product). TakesItem r.by) ps p h.items g.item;
  placed = all_push (λ (r : Product). HasPlace places r.to) ps p h.placed g.place;
  tops = λ known. all_push (λ (r : Product). HasTops known r.by) ps p (h.tops known) (g.tops known);
}
