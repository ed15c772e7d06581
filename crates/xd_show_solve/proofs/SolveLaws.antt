-- Laws of equations that are solved for one unknown after the other.
use Rattle.std.proofs.Common.{◌≡◌, ◌⊎◌, ◌↔◌, inl, inr, ℕ, ◌<◌, ◌≤◌, nat_eq, Bool, true, false, not, ◌&&◌, sym, ap, ◌∙◌, subst, List, [], ◌∷◌, ◌++◌, Option, Some, None, get_or, arith}
use Rattle.std.specs.Option.{IfSome}
use Rattle.xd_doc.specs.Document.{Document}
use Rattle.xd_doc.proofs.Lists.{all_more, all_but_last}
use Rattle.xd_syntax.specs.Tree.{Tree, Alt, Star}
use Rattle.xd_syntax.specs.Fits.{Split}
use Rattle.xd_same_types.specs.Same.{Meaning, FitsAs, MeansSame, TakesItem}
use Rattle.xd_same_types.specs.Same.{HasTops}
use Rattle.xd_show_solve.specs.Equations.{Product, Side, Unknowns, ProductTakes, SomeTakes, ConstantTakes, SideTakes, IsFine, IsFineSide, AddsProduct, AddsMultiple, OwnTakes, OwnMore, IsParted, IsSolved, IsReplaced, PartsMore, AddsReplaced, allowed_but}
use Rattle.xd_same_types.proofs.Laws.{takes_same, takes_alt}
use Rattle.xd_same_types.proofs.Tops.{both_true}
use Rattle.xd_show_solve.proofs.SideLaws.{a_side, a_product, iff_refl, swap_both}
use Rattle.xd_same_types.proofs.Facts.{or_left, or_right, or_none, none_or, or_same, iff_then, iff_back}
use Rattle.xd_show_solve.proofs.SumLaws.{split_same, product_same, product_alt, some_append, fine_above, solves}

-- what is allowed and is another one
pub but_other : (allowed : ℕ → Bool) (i j : ℕ) → allowed j ≡ true → nat_eq j i ≡ false → allowed_but allowed i j ≡ true
but_other allowed i j a e = subst (λ b. (b && not (nat_eq j i)) ≡ true) (sym a) (ap not e)

pub fine_other : (allowed : ℕ → Bool) (ranks : List ℕ) (bound i : ℕ) (p : Product) → nat_eq p.to i ≡ false → IsFine allowed ranks bound p → IsFine (allowed_but allowed i) ranks bound p
fine_other allowed ranks bound i p e f = record { use_allowed = but_other allowed i p.to f.use_allowed e; guarded = f.guarded }

pub side_pushed : (N : Meaning) (X : Unknowns) (d : Document) (ps : List Product) (p : Product) (o : Option Tree) → SideTakes N X d (a_side (ps ++ p ∷ []) o) ↔ (SideTakes N X d (a_side ps o) ⊎ ProductTakes N X d p)
side_pushed N X d ps p o =
    iff_then (or_same (iff_then (some_append N X d ps (p ∷ [])) (or_same (iff_refl (SomeTakes N X d ps)) or_none)) (iff_refl (ConstantTakes N d o))) swap_both

-- the two parts, one product after the other
pub parted_none : (i : ℕ) (o : Option Tree) → IsParted (a_side [] o) i None (a_side [] o)
parted_none i o = record {
  takes = λ N X d. iff_back none_or;
  item = λ allowed ranks h. tt;
  fine = λ allowed ranks bound h. tt;
  tops = λ known h. (tt, h);
}

pub parted_more : (i : ℕ) (o own more : Option Tree) (ps : List Product) (p : Product) (rest new : Side) → IsParted (a_side ps o) i own rest → PartsMore i own rest p more new → IsParted (a_side (ps ++ p ∷ []) o) i more new
parted_more i o own more ps p rest new h m = record {
  takes = λ N X d. iff_then (side_pushed N X d ps p o) (iff_then (or_same (h.takes N X d) (iff_refl (ProductTakes N X d p))) (iff_back (m.takes N X d)));
  item = λ allowed ranks f. let l = all_but_last (IsFine allowed ranks (get_or ranks i 0)) ps p f in m.item allowed ranks l.1 (h.item allowed ranks l.0);
  fine = λ allowed ranks bound f. let l = all_but_last (IsFine allowed ranks bound) ps p f in m.fine allowed ranks bound l.1 (h.fine allowed ranks bound l.0);
  tops = λ known f. let l = all_but_last (λ (q : Product). HasTops known q.by) ps p f.0 in m.tops known l.1 (h.tops known (l.0, f.1));
}

pub parts_other : (i : ℕ) (own : Option Tree) (rest new : Side) (p : Product) → nat_eq p.to i ≡ false → AddsProduct rest p new → PartsMore i own rest p own new
parts_other i own rest new p e a = record {
  takes = λ N X d. iff_then (or_same (iff_refl (OwnTakes N X d i own)) (a.takes N X d)) (or_left, or_right);
  item = λ allowed ranks f h. h;
  fine = λ allowed ranks bound f h. a.fine (allowed_but allowed i) ranks bound h (fine_other allowed ranks bound i p e f);
  tops = λ known t h. (h.0, a.tops known h.1 t);
}

own_takes : (N : Meaning) (X : Unknowns) (d : Document) (i : ℕ) (own : Option Tree) (T M : Tree) → OwnMore own T M → OwnTakes N X d i (Some M) ↔ (OwnTakes N X d i own ⊎ ProductTakes N X d (a_product T i))
own_takes N X d i None T M s = iff_then (product_same N X d M T i s) (iff_back none_or)
own_takes N X d i (Some O) T M s = iff_then (product_same N X d M (Alt O T) i s) (product_alt N X d O T i)

own_item : (own : Option Tree) (T M : Tree) → OwnMore own T M → IfSome own TakesItem → TakesItem T → TakesItem M
own_item None T M s h t = takes_same s t
own_item (Some O) T M s h t = takes_same s (takes_alt O T h t)

own_tops : (known : List (List ℕ)) (own : Option Tree) (T M : Tree) → OwnMore own T M → IfSome own (HasTops known) → HasTops known T → HasTops known M
own_tops known None T M s h t = s.tops known ∙ t
own_tops known (Some O) T M s h t = s.tops known ∙ both_true h t

-- an unknown of its own rank isn't below it
not_below : (T : Tree) (ranks : List ℕ) (i j : ℕ) → j ≡ i → TakesItem T ⊎ (get_or ranks j 0 < get_or ranks i 0) → TakesItem T
not_below T ranks i j e (inl t) = t
not_below T ranks i j e (inr l) = let q : get_or ranks j 0 ≡ get_or ranks i 0 = ap (λ k. get_or ranks k 0) e in absurd (omega arith)

pub parts_own : (i : ℕ) (own : Option Tree) (rest : Side) (p : Product) (M : Tree) → p.to ≡ i → OwnMore own p.by M → PartsMore i own rest p (Some M) rest
parts_own i own rest p M e s = record {
  takes = λ N X d.
      let one : ProductTakes N X d p ↔ ProductTakes N X d (a_product p.by i) = subst (λ j. ProductTakes N X d p ↔ ProductTakes N X d (a_product p.by j)) e (iff_refl (ProductTakes N X d p)) in
      iff_then (or_same (iff_then (own_takes N X d i own p.by M s) (or_same (iff_refl (OwnTakes N X d i own)) (iff_back one))) (iff_refl (SideTakes N X d rest))) swap_both;
  item = λ allowed ranks f h. own_item own p.by M s h (not_below p.by ranks i p.to e f.guarded);
  fine = λ allowed ranks bound f h. h;
  tops = λ known t h. (own_tops known own p.by M s h.0 t, h.1);
}

-- solved
pub solved_none : (i : ℕ) (s rest : Side) → IsParted s i None rest → IsSolved i s rest
solved_none i s rest h = record {
  equals = λ N X allowed ranks f eq d. iff_then (eq d) (iff_then (h.takes N X d) none_or);
  fine = h.fine;
  tops = λ known f. (h.tops known f).1;
}

pub solved_some : (i : ℕ) (s rest new : Side) (L A : Tree) → IsParted s i (Some L) rest → MeansSame A (Star L) → AddsMultiple (a_side [] None) A rest new → IsSolved i s new
solved_some i s rest new L A h m a = record {
  equals = λ N X allowed ranks f eq d.
      iff_then (solves N X i L (λ e. SideTakes N X e rest) (h.item allowed ranks f) (λ e. iff_then (eq e) (h.takes N X e)) d)
      (iff_then (split_same (FitsAs N (Star L)) (λ e. SideTakes N X e rest) (FitsAs N A) (λ e. SideTakes N X e rest) (λ e. iff_back (m.both N e)) (λ e. iff_refl (SideTakes N X e rest)) d)
      (iff_back (iff_then (a.takes N X d) (iff_then (or_same or_none (iff_refl (Split (FitsAs N A) (λ e. SideTakes N X e rest) d))) none_or))));
  fine = λ allowed ranks bound f. a.fine (allowed_but allowed i) ranks bound tt (h.fine allowed ranks bound f);
  tops = λ known f. let l = h.tops known f in a.tops known (tt, tt) (m.tops known ∙ l.0) l.1;
}

-- replaced
pub replaced_none : (i : ℕ) (by : Side) (o : Option Tree) → IsReplaced i by (a_side [] o) (a_side [] o)
replaced_none i by o = record {
  takes = λ N X eq d. iff_refl (SideTakes N X d (a_side [] o));
  fine = λ allowed ranks bound f g. tt;
  tops = λ known g f. f;
}

pub replaced_more : (i : ℕ) (by now new : Side) (o : Option Tree) (ps : List Product) (p : Product) → IsReplaced i by (a_side ps o) now → AddsReplaced i by now p new → IsReplaced i by (a_side (ps ++ p ∷ []) o) new
replaced_more i by now new o ps p h a = record {
  takes = λ N X eq d. iff_then (a.takes N X eq d) (iff_then (or_same (h.takes N X eq d) (iff_refl (ProductTakes N X d p))) (iff_back (side_pushed N X d ps p o)));
  fine = λ allowed ranks bound f g.
      let l = all_but_last (IsFine allowed ranks bound) ps p f in a.fine allowed ranks bound l.1 g (h.fine allowed ranks bound l.0 g);
  tops = λ known g f. let l = all_but_last (λ (q : Product). HasTops known q.by) ps p f.0 in a.tops known l.1 g (h.tops known g (l.0, f.1));
}

pub adds_other : (i : ℕ) (by now new : Side) (p : Product) → nat_eq p.to i ≡ false → AddsProduct now p new → AddsReplaced i by now p new
adds_other i by now new p e a = record {
  takes = λ N X eq d. a.takes N X d;
  fine = λ allowed ranks bound f g h. a.fine (allowed_but allowed i) ranks bound h (fine_other allowed ranks bound i p e f);
  tops = λ known t g h. a.tops known h t;
}

pub adds_own : (i : ℕ) (by now new : Side) (p : Product) → p.to ≡ i → AddsMultiple now p.by by new → AddsReplaced i by now p new
adds_own i by now new p e a = record {
  takes = λ N X eq d.
      let one : ProductTakes N X d p ↔ Split (FitsAs N p.by) (λ x. X i x ≡ true) d =
      subst (λ j. ProductTakes N X d p ↔ Split (FitsAs N p.by) (λ x. X j x ≡ true) d) e (iff_refl (ProductTakes N X d p)) in
      let all = split_same (FitsAs N p.by) (λ x. X i x ≡ true) (FitsAs N p.by) (λ x. SideTakes N X x by) (λ x. iff_refl (FitsAs N p.by x)) eq d in
      iff_then (a.takes N X d) (or_same (iff_refl (SideTakes N X d now)) (iff_back (iff_then one all)));
  fine = λ allowed ranks bound f g h. go allowed ranks bound g h f.guarded;
  tops = λ known t g h. a.tops known h t g;
}
  where
    go : (allowed : ℕ → Bool) (ranks : List ℕ) (bound : ℕ) → IsFineSide (allowed_but allowed i) ranks (get_or ranks i 0) by → IsFineSide (allowed_but allowed i) ranks bound now →
        TakesItem p.by ⊎ (get_or ranks p.to 0 < bound) → IsFineSide (allowed_but allowed i) ranks bound new
    go allowed ranks bound g k (inl t) = a.guarded (allowed_but allowed i) ranks bound k t (all_more (IsFine (allowed_but allowed i) ranks (get_or ranks i 0)) (λ (q : Product). allowed_but allowed i q.to ≡ true) by.products (λ q z. z.use_allowed) g)
    go allowed ranks bound g k (inr l) =
        let q : get_or ranks p.to 0 ≡ get_or ranks i 0 = ap (λ k. get_or ranks k 0) e in
        let m : get_or ranks i 0 ≤ bound = omega arith in
        a.fine (allowed_but allowed i) ranks bound k (fine_above (allowed_but allowed i) ranks (get_or ranks i 0) bound by.products m g)
