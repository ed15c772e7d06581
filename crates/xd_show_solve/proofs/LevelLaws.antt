-- Laws of moves as products.
use Rattle.std.proofs.Common.{◌≡◌, ◌⊎◌, ◌↔◌, inl, inr, ℕ, Bool, true, false, ◌||◌, ◌&&◌, refl, sym, ap, subst, List, [], ◌∷◌, ◌++◌, Option, Some}
use Rattle.std.specs.List.{list_any}
use Rattle.std.proofs.lemmas.Bool.{and_from}
use Rattle.xd_doc.specs.Document.{Document, empty, text, element, join}
use Rattle.xd_doc.specs.Classes.{LabelClass, class_has}
use Rattle.xd_doc.proofs.Bools.{and_parts}
use Rattle.xd_doc.proofs.Lists.{all_push}
use Rattle.xd_auto.specs.declared.auto.LabelMove.{LabelMove}
use Rattle.xd_auto.specs.Automaton.{Automaton, accepts, takes_element}
use Rattle.xd_syntax.specs.Tree.{Tree, Elem}
use Rattle.xd_syntax.specs.Table.{Row, tree_at}
use Rattle.xd_same_types.specs.Grown.{GrowsTypes}
use Rattle.xd_syntax.specs.declared.types.TypeId.{TypeId}
use Rattle.xd_same_types.specs.Same.{Meaning, FitsAs, TakesItem}
use Rattle.xd_same_types.specs.Same.{HasTops}
use Rattle.xd_show_solve.specs.Equations.{Product, Unknowns, ProductTakes}
use Rattle.xd_show_solve.specs.Levels.{LabelsTake, AreContents, HasPlace, known_of, IsLabelProduct, AreLabelProducts, WrittenBelong}
use Rattle.xd_same_types.proofs.Laws.{takes_elem}
use Rattle.xd_show_solve.proofs.SideLaws.{a_product}
use Rattle.xd_same_types.proofs.Facts.{iff_then, iff_back, or_same}
use Rattle.xd_show_solve.proofs.SumLaws.{some_append}
use Rattle.xd_same_types.proofs.Tables.{kept_tree, kept_belongs}

-- one element, with what follows it, of a move
element_out : (a : Automaton) (N : Meaning) (X : Unknowns) (k : LabelClass) (T : Tree) (i : ℕ) (m : LabelMove) → m.class ≡ k →
    ((d : Document) → (accepts a d m.content ≡ true) ↔ FitsAs N T d) → ((d : Document) → (X i d ≡ true) ↔ (accepts a d m.rest ≡ true)) →
    (u v d : Document) → join u v ≡ d → FitsAs N (Elem k T) u → X i v ≡ true → LabelsTake a (m ∷ []) d
element_out a N X k T i m c h g empty v d e f x = absurd f
element_out a N X k T i m c h g (text t r) v d e f x = absurd f
element_out a N X k T i m c h g (element l w r) v d e f x =
    let rest : join r v ≡ v = ap (λ z. join z v) f.0 in
    let has : class_has m.class l ≡ true = subst (λ y. class_has y l ≡ true) (sym c) f.1 in
    let all = and_from (class_has m.class l) (accepts a w m.content && accepts a v m.rest) has (and_from (accepts a w m.content) (accepts a v m.rest) ((h w).1 f.2) ((g v).0 x)) in
    subst (LabelsTake a (m ∷ [])) e (subst (λ z. LabelsTake a (m ∷ []) (element l w z)) (sym rest) (or_one (takes_element a l w v m) all))
  where
    or_one : (b : Bool) → b ≡ true → (b || false) ≡ true
    or_one b q = subst (λ x. (x || false) ≡ true) (sym q) refl

element_in : (a : Automaton) (N : Meaning) (X : Unknowns) (k : LabelClass) (T : Tree) (i : ℕ) (m : LabelMove) → m.class ≡ k →
    ((d : Document) → (accepts a d m.content ≡ true) ↔ FitsAs N T d) → ((d : Document) → (X i d ≡ true) ↔ (accepts a d m.rest ≡ true)) →
    (d : Document) → LabelsTake a (m ∷ []) d → ProductTakes N X d (a_product (Elem k T) i)
element_in a N X k T i m c h g empty f = absurd f
element_in a N X k T i m c h g (text t r) f = absurd f
element_in a N X k T i m c h g (element l w r) f =
    let one = one_or (takes_element a l w r m) f in
    let p = and_parts (class_has m.class l) (accepts a w m.content && accepts a r m.rest) one in
    let q = and_parts (accepts a w m.content) (accepts a r m.rest) p.1 in
    (element l w empty, r, refl, (refl, subst (λ y. class_has y l ≡ true) c p.0, (h w).0 q.0), (g r).1 q.1)
  where
    one_or : (b : Bool) → (b || false) ≡ true → b ≡ true
    one_or true q = refl
    one_or false q = q

pub label_product : (a : Automaton) (types : List Row) (written : _) (places : _) (m : LabelMove) (id : TypeId) (i : ℕ) → known_of written m.content ≡ Some id → known_of places m.rest ≡ Some i →
    IsLabelProduct a types written places m (a_product (Elem m.class (tree_at types id.at)) i)
label_product a types written places m id i w p = record {
  takes = λ N X contents is d. (
    λ f. only f (λ g. element_out a N X m.class (tree_at types id.at) i m refl (contents m.content id w) (is m.rest i p) g.0 g.1 d g.2 g.3 g.4),
    λ f. inl (element_in a N X m.class (tree_at types id.at) i m refl (contents m.content id w) (is m.rest i p) d f),
  );
  item = takes_elem m.class (tree_at types id.at);
  place = (m.rest, p);
  tops = λ known. refl;
}
  where
    only : {A B : Type 0} → A ⊎ ⊥ → (A → B) → B
    only (inl x) f = f x
    only (inr n) f = absurd n

labels_append : (a : Automaton) (ms : List LabelMove) (m : LabelMove) (d : Document) → LabelsTake a (ms ++ m ∷ []) d ↔ (LabelsTake a ms d ⊎ LabelsTake a (m ∷ []) d)
labels_append a ms m empty = (λ f. inl f, λ f. none f)
  where
    none : ⊥ ⊎ ⊥ → ⊥
    none (inl n) = n
    none (inr n) = n
labels_append a ms m (text t r) = (λ f. inl f, λ f. none f)
  where
    none : ⊥ ⊎ ⊥ → ⊥
    none (inl n) = n
    none (inr n) = n
labels_append a ms m (element l c r) = any_append (takes_element a l c r) ms
  where
    any_append : (p : LabelMove → Bool) (xs : List LabelMove) → (list_any p (xs ++ m ∷ []) ≡ true) ↔ ((list_any p xs ≡ true) ⊎ (list_any p (m ∷ []) ≡ true))
    any_append p [] = (λ h. inr h, λ h. go h)
      where
        go : (false ≡ true) ⊎ (list_any p (m ∷ []) ≡ true) → list_any p (m ∷ []) ≡ true
        go (inl n) = cc
        go (inr h) = h
    any_append p (x ∷ xs) = by_first (p x) (any_append p xs)
      where
        by_first : (b : Bool) → (list_any p (xs ++ m ∷ []) ≡ true) ↔ ((list_any p xs ≡ true) ⊎ (list_any p (m ∷ []) ≡ true)) →
            ((b || list_any p (xs ++ m ∷ [])) ≡ true) ↔ (((b || list_any p xs) ≡ true) ⊎ (list_any p (m ∷ []) ≡ true))
        by_first true i = (λ h. inl refl, λ h. refl)
        by_first false i = i

pub label_products_none : (a : Automaton) (types : List Row) (written : _) (places : _) → AreLabelProducts a types written places [] []
label_products_none a types written places = record { takes = λ N X c p d. (λ f. absurd f, λ f. none d f); items = tt; placed = tt; tops = λ known. tt }
  where
    none : (d : Document) → LabelsTake a [] d → ⊥
    none empty f = f
    none (text t r) f = f
    none (element l c r) f = cc

pub label_products_more : (a : Automaton) (types : List Row) (written : _) (places : _) (ms : List LabelMove) (ps : List Product) (m : LabelMove) (p : Product) →
    AreLabelProducts a types written places ms ps → IsLabelProduct a types written places m p → AreLabelProducts a types written places (ms ++ m ∷ []) (ps ++ p ∷ [])
label_products_more a types written places ms ps m p h g = record {
  takes = λ N X c q d. iff_then (some_append N X d ps (p ∷ [])) (iff_then (or_same (h.takes N X c q d) (g.takes N X c q d)) (iff_back (labels_append a ms m d)));
  items = all_push (λ (r : Product). TakesItem r.by) ps p h.items g.item;
  placed = all_push (λ (r : Product). HasPlace places r.to) ps p h.placed g.place;
  tops = λ known. all_push (λ (r : Product). HasTops known r.by) ps p (h.tops known) (g.tops known);
}

pub written_stay : (a b : List Row) → GrowsTypes a b → (written : List (Option TypeId)) → WrittenBelong a written → WrittenBelong b written
written_stay a b k written h = λ s id e. kept_belongs a b k id (h s id e)

pub contents_stay : (o : Automaton) (N : Meaning) (a b : List Row) → GrowsTypes a b → (written : List (Option TypeId)) → WrittenBelong a written → AreContents o N a written → AreContents o N b written
contents_stay o N a b k written h c = λ s id e d. subst (λ T. (accepts o d s ≡ true) ↔ FitsAs N T d) (sym (kept_tree a b k id (h s id e))) (c s id e d)

-- a move that is one over a table that has grown
pub label_product_before : (o : Automaton) (a b : List Row) → GrowsTypes a b → (written : List (Option TypeId)) (places : List (Option ℕ)) (m : LabelMove) (p : Product) → WrittenBelong a written →
    IsLabelProduct o b written places m p → IsLabelProduct o a written places m p
label_product_before o a b k written places m p h g = record { takes = λ N X c q d. g.takes N X (contents_stay o N a b k written h c) q d; item = g.item; place = g.place; tops = g.tops }
