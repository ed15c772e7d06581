-- Laws of right sides as they grow.
use Rattle.std.proofs.Common.{◌≡◌, ◌⊎◌, ◌↔◌, ℕ, ◌<◌, true, ◌∙◌, List, [], ◌∷◌, ◌++◌, length, Option, Some, None, get_or, set}
use Rattle.xd_doc.proofs.Lists.{all_push, all_set, all_there, all_but_last}
use Rattle.xd_syntax.specs.Tree.{Tree, Seq, Alt}
use Rattle.xd_same_types.specs.Same.{FitsAs, MeansSame}
use Rattle.xd_same_types.specs.Same.{HasTops}
use Rattle.xd_show_solve.specs.Equations.{Product, Side, ProductTakes, SomeTakes, ConstantTakes, SideTakes, IsFine, AddsProduct, AddsConstant, AddsMultiple}
use Rattle.xd_same_types.proofs.Tops.{both_true}
use Rattle.xd_same_types.proofs.Facts.{or_left, or_right, or_swap, or_none, or_same, iff_then, iff_back}
use Rattle.xd_show_solve.proofs.SumLaws.{split_or, split_never, split_same, product_same, product_alt, product_seq, some_append, some_set, fine_same, fine_alt, fine_seq, fine_guarded}

abbrev pub a_side : List Product → Option Tree → Side
a_side ps o = record { products = ps; constant = o }

abbrev pub a_product : Tree → ℕ → Product
a_product T i = record { by = T; to = i }

pub iff_refl : (A : Type 0) → A ↔ A
iff_refl A = (λ a. a, λ a. a)

-- (A or C) or B, as (A or B) or C
pub swap_both : {A B C : Type 0} → ((A ⊎ B) ⊎ C) ↔ ((A ⊎ C) ⊎ B)
swap_both = (or_swap, or_swap)

pub product_pushed : (ps : List Product) (o : Option Tree) (p : Product) → AddsProduct (a_side ps o) p (a_side (ps ++ p ∷ []) o)
product_pushed ps o p = record {
  takes = λ N X d. iff_then (or_same (iff_then (some_append N X d ps (p ∷ [])) (or_same (iff_refl (SomeTakes N X d ps)) or_none)) (iff_refl (ConstantTakes N d o))) swap_both;
  fine = λ allowed ranks bound h f. all_push (IsFine allowed ranks bound) ps p h f;
  tops = λ known h t. (all_push (λ (q : Product). HasTops known q.by) ps p h.0 t, h.1);
}

pub product_put : (ps : List Product) (o : Option Tree) (k : ℕ) (T U V : Tree) (i : ℕ) → k < length ps → a_product T i ≡ get_or ps k (a_product T i) → MeansSame V (Alt T U) →
    AddsProduct (a_side ps o) (a_product U i) (a_side (set ps k (a_product V i)) o)
product_put ps o k T U V i l e s = record {
  takes = λ N X d. iff_then
      (or_same (some_set N X d ps k (a_product T i) (a_product V i) (a_product U i) l e (iff_then (product_same N X d V (Alt T U) i s) (product_alt N X d T U i))) (iff_refl (ConstantTakes N d o)))
      swap_both;
  fine = λ allowed ranks bound h f.
      all_set (IsFine allowed ranks bound) ps k (a_product V i) h
      (fine_same allowed ranks bound V (Alt T U) i s (fine_alt allowed ranks bound T U i (all_there (IsFine allowed ranks bound) ps k (a_product T i) h l e) f));
  tops = λ known h t.
      let o = all_there (λ (q : Product). HasTops known q.by) ps k (a_product T i) h.0 l e in
      (all_set (λ (q : Product). HasTops known q.by) ps k (a_product V i) h.0 (s.tops known ∙ both_true o t), h.1);
}

-- with a type that means the same
pub adds_as : (old new : Side) (T U : Tree) (i : ℕ) → AddsProduct old (a_product T i) new → MeansSame T U → AddsProduct old (a_product U i) new
adds_as old new T U i a s = record {
  takes = λ N X d. iff_then (a.takes N X d) (or_same (iff_refl (SideTakes N X d old)) (product_same N X d T U i s));
  fine = λ allowed ranks bound h f. a.fine allowed ranks bound h (fine_same allowed ranks bound T U i s f);
  tops = λ known h t. a.tops known h (s.tops known ∙ t);
}

pub constant_first : (ps : List Product) (T : Tree) → AddsConstant (a_side ps None) T (a_side ps (Some T))
constant_first ps T = record {
  takes = λ N X d. or_same (iff_back or_none) (iff_refl (FitsAs N T d));
  fine = λ allowed ranks bound h. h;
  tops = λ known h t. (h.0, t);
}

pub constant_more : (ps : List Product) (C T M : Tree) → MeansSame M (Alt C T) → AddsConstant (a_side ps (Some C)) T (a_side ps (Some M))
constant_more ps C T M s = record {
  takes = λ N X d. iff_then (or_same (iff_refl (SomeTakes N X d ps)) (s.both N d)) (or_left, or_right);
  fine = λ allowed ranks bound h. h;
  tops = λ known h t. (h.0, s.tops known ∙ both_true h.1 t);
}

pub multiple_none : (old : Side) (A : Tree) → AddsMultiple old A (a_side [] None) old
multiple_none old A = record {
  takes = λ N X d. iff_back (iff_then (or_same (iff_refl (SideTakes N X d old)) (iff_then (split_same (FitsAs N A) (λ e. ⊥ ⊎ ⊥) (FitsAs N A) (λ e. ⊥) (λ e. iff_refl (FitsAs N A e)) (λ e. or_none) d) (split_never (FitsAs N A) d))) or_none);
  fine = λ allowed ranks bound h k. h;
  guarded = λ allowed ranks bound h t k. h;
  tops = λ known h t k. h;
}

pub multiple_more : (old now new : Side) (A P : Tree) (ps : List Product) (p : Product) → AddsMultiple old A (a_side ps None) now → MeansSame P (Seq A p.by) → AddsProduct now (a_product P p.to) new →
    AddsMultiple old A (a_side (ps ++ p ∷ []) None) new
multiple_more old now new A P ps p m s a = record {
  takes = λ N X d.
      let one = iff_then (product_same N X d P (Seq A p.by) p.to s) (product_seq N X d A p.by p.to) in
      let all = split_same (FitsAs N A) (λ e. SideTakes N X e (a_side (ps ++ p ∷ []) None)) (FitsAs N A) (λ e. SideTakes N X e (a_side ps None) ⊎ ProductTakes N X e p) (λ e. iff_refl (FitsAs N A e))
      (λ e. iff_then or_none (iff_then (some_append N X e ps (p ∷ [])) (or_same (iff_back or_none) or_none))) d in
      iff_then (a.takes N X d) (iff_then (or_same (m.takes N X d) one) (iff_then (or_right, or_left)
      (or_same (iff_refl (SideTakes N X d old)) (iff_back (iff_then all (split_or (FitsAs N A) (λ e. SideTakes N X e (a_side ps None)) (λ e. ProductTakes N X e p) d))))));
  fine = λ allowed ranks bound h k.
      let l = all_but_last (IsFine allowed ranks bound) ps p k in
      a.fine allowed ranks bound (m.fine allowed ranks bound h l.0) (fine_same allowed ranks bound P (Seq A p.by) p.to s (fine_seq allowed ranks bound A p.by p.to l.1));
  guarded = λ allowed ranks bound h t k.
      let l = all_but_last (λ (q : Product). allowed q.to ≡ true) ps p k in
      a.fine allowed ranks bound (m.guarded allowed ranks bound h t l.0) (fine_same allowed ranks bound P (Seq A p.by) p.to s (fine_guarded allowed ranks bound A p.by p.to t l.1));
  tops = λ known h t k.
      let l = all_but_last (λ (q : Product). HasTops known q.by) ps p k.0 in
      a.tops known (m.tops known h t (l.0, tt)) (s.tops known ∙ both_true t l.1);
}

pub multiple_constant : (old now new : Side) (A P C : Tree) (ps : List Product) → AddsMultiple old A (a_side ps None) now → MeansSame P (Seq A C) → AddsConstant now P new → AddsMultiple old A (a_side ps (Some C)) new
multiple_constant old now new A P C ps m s a = record {
  takes = λ N X d.
      let all = split_same (FitsAs N A) (λ e. SideTakes N X e (a_side ps (Some C))) (FitsAs N A) (λ e. SideTakes N X e (a_side ps None) ⊎ FitsAs N C e) (λ e. iff_refl (FitsAs N A e))
      (λ e. or_same (iff_back or_none) (iff_refl (FitsAs N C e))) d in
      iff_then (a.takes N X d) (iff_then (or_same (m.takes N X d) (s.both N d)) (iff_then (or_right, or_left)
      (or_same (iff_refl (SideTakes N X d old)) (iff_back (iff_then all (split_or (FitsAs N A) (λ e. SideTakes N X e (a_side ps None)) (λ e. FitsAs N C e) d))))));
  fine = λ allowed ranks bound h k. a.fine allowed ranks bound (m.fine allowed ranks bound h k);
  guarded = λ allowed ranks bound h t k. a.fine allowed ranks bound (m.guarded allowed ranks bound h t k);
  tops = λ known h t k. a.tops known (m.tops known h t (k.0, tt)) (s.tops known ∙ both_true t k.1);
}
