-- Laws of sides that are written shorter.
use Rattle.std.proofs.Common.{◌≡◌, ◌⊎◌, inl, inr, ℕ, zero, suc, ◌<◌, true, refl, sym, ap, ◌∙◌, subst, List, [], ◌∷◌, ◌++◌, length, get_or, Option, Some, None, arith}
use Rattle.std.specs.List.{AllByRecursion}
use Rattle.xd_doc.specs.Document.{Document}
use Rattle.xd_doc.specs.Members.{IsOneOf}
use Rattle.xd_doc.proofs.Lists.{all_but_last}
use Rattle.xd_doc.proofs.Logic.{sum_map}
use Rattle.xd_syntax.specs.Tree.{Tree, Empty}
use Rattle.xd_syntax.specs.Table.{Row}
use Rattle.xd_syntax.specs.declared.types.TypeId.{TypeId}
use Rattle.xd_same_types.specs.Same.{Meaning}
use Rattle.xd_same_types.specs.Same.{HasTops}
use Rattle.xd_show_solve.specs.Equations.{Product, Side, Unknowns, ProductTakes, SomeTakes, ConstantTakes, SideTakes, Equals, IsFine, AddsProduct, AddsUnless, IsShort, Shortens, SameSide, Covers, product_in, products, side_in, kept_constant}
use Rattle.xd_show_solve.specs.declared.sums.Term.{Term}
use Rattle.xd_show_solve.specs.declared.sums.Sum.{Sum}
use Rattle.xd_show_solve.proofs.SideLaws.{a_side, a_product, iff_refl}
use Rattle.xd_show_solve.proofs.SolveLaws.{side_pushed}
use Rattle.xd_same_types.proofs.Splits.{then_only, none_then}
use Rattle.xd_same_types.proofs.Facts.{or_same, iff_then, iff_back}
use Rattle.xd_show_solve.proofs.SumSteps.{constant_of}

pub same_term : (t u : Term) → t.to ≡ u.to → t.by.at ≡ u.by.at → t ≡ u
same_term t u e f = ap by_at f ∙ ap by_to e
  where
    by_at : ℕ → Term
    by_at n = record { by = record { at = n }; to = t.to }

    by_to : ℕ → Term
    by_to n = record { by = record { at = u.by.at }; to = n }

-- it stands at a place
pub among_at : {A : Type 0} (xs : List A) (k : ℕ) (x : A) → k < length xs → x ≡ get_or xs k x → IsOneOf x xs
among_at [] k x l e = absurd (omega arith)
among_at (y ∷ ys) zero x l e = inl (sym e)
among_at (y ∷ ys) (suc k) x l e = let m : k < length ys = omega arith in inr (among_at ys k x m e)

-- a product of a side is taken by the side
among_takes : (N : Meaning) (X : Unknowns) (d : Document) (a : List Row) (t : Term) (ts : List Term) → IsOneOf t ts → ProductTakes N X d (product_in a t) → SomeTakes N X d (products a ts)
among_takes N X d a t [] m f = absurd m
among_takes N X d a t (u ∷ us) (inl e) f = inl (subst (λ x. ProductTakes N X d (product_in a x)) (sym e) f)
among_takes N X d a t (u ∷ us) (inr m) f = inr (among_takes N X d a t us m f)

all_among_take : (N : Meaning) (X : Unknowns) (d : Document) (a : List Row) (ts us : List Term) → AllByRecursion (λ u. IsOneOf u ts) us → SomeTakes N X d (products a us) → SomeTakes N X d (products a ts)
all_among_take N X d a ts [] h f = absurd f
all_among_take N X d a ts (u ∷ us) h (inl f) = among_takes N X d a u ts h.0 f
all_among_take N X d a ts (u ∷ us) h (inr f) = all_among_take N X d a ts us h.1 f

constant_within : (N : Meaning) (d : Document) (a : List Row) (o p : Option TypeId) → (p ≡ None) ⊎ (o ≡ p) → ConstantTakes N d (constant_of a p) → ConstantTakes N d (constant_of a o)
constant_within N d a o p (inl e) f = absurd (subst (λ x. ConstantTakes N d (constant_of a x)) e f)
constant_within N d a o p (inr e) f = subst (λ x. ConstantTakes N d (constant_of a x)) (sym e) f

-- what is covered is within
pub covered_within : (a : List Row) (s t : Sum) → Covers s t → (N : Meaning) (X : Unknowns) (d : Document) → SideTakes N X d (side_in a t) → SideTakes N X d (side_in a s)
covered_within a s t c N X d f = sum_map (all_among_take N X d a s.terms.items t.terms.items c.terms) (constant_within N d a s.constant t.constant c.constant) f

-- one product more, or none
pub unless_not : (other now new : Side) (p : Product) → AddsProduct now p new → AddsUnless other now p new
unless_not other now new p a = record {
  within = λ N X d f. (a.takes N X d).0 f;
  covered = λ N X d f. inl ((a.takes N X d).1 f);
  fine = λ allowed ranks bound h g. a.fine allowed ranks bound h g;
  tops = a.tops;
}

pub unless_had : (a : List Row) (other : Sum) (now : Side) (t : Term) → IsOneOf t other.terms.items → AddsUnless (side_in a other) now (product_in a t) now
unless_had a other now t m = record {
  within = λ N X d f. inl f;
  covered = λ N X d f. go N X d f;
  fine = λ allowed ranks bound h g. h;
  tops = λ known h t. h;
}
  where
    go : (N : Meaning) (X : Unknowns) (d : Document) → SideTakes N X d now ⊎ ProductTakes N X d (product_in a t) → SideTakes N X d now ⊎ SideTakes N X d (side_in a other)
    go N X d (inl f) = inl f
    go N X d (inr f) = inr (inl (among_takes N X d a t other.terms.items m f))

pub short_more : (other now new : Side) (ps : List Product) (o : Option Tree) (p : Product) → IsShort other (a_side ps o) now → AddsUnless other now p new → IsShort other (a_side (ps ++ p ∷ []) o) new
short_more other now new ps o p h a = record {
  within = λ N X d f. (side_pushed N X d ps p o).1 (sum_map (h.within N X d) (λ x. x) (a.within N X d f));
  covered = λ N X d f. go N X d ((side_pushed N X d ps p o).0 f);
  fine = λ allowed ranks bound f. let l = all_but_last (IsFine allowed ranks bound) ps p f in a.fine allowed ranks bound (h.fine allowed ranks bound l.0) l.1;
  tops = λ known f. let l = all_but_last (λ (q : Product). HasTops known q.by) ps p f.0 in a.tops known (h.tops known (l.0, f.1)) l.1;
}
  where
    first : (N : Meaning) (X : Unknowns) (d : Document) → SideTakes N X d now ⊎ SideTakes N X d other → SideTakes N X d new ⊎ SideTakes N X d other
    first N X d (inl f) = a.covered N X d (inl f)
    first N X d (inr f) = inr f

    go : (N : Meaning) (X : Unknowns) (d : Document) → SideTakes N X d (a_side ps o) ⊎ ProductTakes N X d p → SideTakes N X d new ⊎ SideTakes N X d other
    go N X d (inl f) = first N X d (h.covered N X d f)
    go N X d (inr f) = a.covered N X d (inr f)

pub short_none : (a : List Row) (s t : Sum) (k : Option TypeId) → Covers s t → k ≡ kept_constant s.constant t.constant → IsShort (side_in a t) (a_side [] (constant_of a s.constant)) (a_side [] (constant_of a k))
short_none a s t k c e = subst (λ x. IsShort (side_in a t) (a_side [] (constant_of a s.constant)) (a_side [] (constant_of a x))) (sym e) (by_constant t.constant refl)
  where
    by_constant : (o : Option TypeId) → t.constant ≡ o → IsShort (side_in a t) (a_side [] (constant_of a s.constant)) (a_side [] (constant_of a (kept_constant s.constant o)))
    by_constant None q = record { within = λ N X d f. f; covered = λ N X d f. inl f; fine = λ allowed ranks bound f. tt; tops = λ known f. f }
    by_constant (Some x) q = record {
      within = λ N X d f. absurd (nothing f);
      covered = λ N X d f. inr (there N X d f c.constant);
      fine = λ allowed ranks bound f. tt;
      tops = λ known f. (tt, tt);
    }
      where
        nothing : ⊥ ⊎ ⊥ → ⊥
        nothing (inl n) = n
        nothing (inr n) = n

        there : (N : Meaning) (X : Unknowns) (d : Document) → ⊥ ⊎ ConstantTakes N d (constant_of a s.constant) → (t.constant ≡ None) ⊎ (s.constant ≡ t.constant) → SideTakes N X d (side_in a t)
        there N X d (inl n) w = absurd n
        there N X d (inr f) (inl n) = absurd (let z : None ≡ Some x = sym n ∙ q in cc)
        there N X d (inr f) (inr w) = inr (subst (λ y. ConstantTakes N d (constant_of a y)) w f)

-- the unknown in the place of what was left out
pub short_then : (i : ℕ) (other s now new : Side) → IsShort other s now → ((N : Meaning) (X : Unknowns) (d : Document) → SideTakes N X d other → SideTakes N X d s) → AddsProduct now (a_product Empty i) new → Shortens i other s new
short_then i other s now new h w a = record {
  takes = λ N X eq d.
      (λ f. to N X eq d ((a.takes N X d).0 f), λ f. (a.takes N X d).1 (back N X eq d (h.covered N X d f)));
  fine = λ allowed ranks bound u l f. a.fine allowed ranks bound (h.fine allowed ranks bound f) (record { use_allowed = u; guarded = inr l });
  tops = λ known f. a.tops known (h.tops known f) refl;
}
  where
    to : (N : Meaning) (X : Unknowns) → Equals N X i other → (d : Document) → SideTakes N X d now ⊎ ProductTakes N X d (a_product Empty i) → SideTakes N X d s
    to N X eq d (inl f) = h.within N X d f
    to N X eq d (inr f) = w N X d ((eq d).0 (then_only (λ e. X i e ≡ true) d f))

    back : (N : Meaning) (X : Unknowns) → Equals N X i other → (d : Document) → SideTakes N X d now ⊎ SideTakes N X d other → SideTakes N X d now ⊎ ProductTakes N X d (a_product Empty i)
    back N X eq d (inl f) = inl f
    back N X eq d (inr f) = inr (none_then (λ e. X i e ≡ true) d ((eq d).1 f))

-- the same side, one product after the other
pub same_none : (o : Option Tree) → SameSide (a_side [] o) (a_side [] o)
same_none o = record { takes = λ N X d. iff_refl (SideTakes N X d (a_side [] o)); fine = λ allowed ranks bound f. tt; tops = λ known f. f }

pub same_more : (now new : Side) (ps : List Product) (o : Option Tree) (p : Product) → SameSide (a_side ps o) now → AddsProduct now p new → SameSide (a_side (ps ++ p ∷ []) o) new
same_more now new ps o p h a = record {
  takes = λ N X d. iff_then (a.takes N X d) (iff_then (or_same (h.takes N X d) (iff_refl (ProductTakes N X d p))) (iff_back (side_pushed N X d ps p o)));
  fine = λ allowed ranks bound f. let l = all_but_last (IsFine allowed ranks bound) ps p f in a.fine allowed ranks bound (h.fine allowed ranks bound l.0) l.1;
  tops = λ known f. let l = all_but_last (λ (q : Product). HasTops known q.by) ps p f.0 in a.tops known (h.tops known (l.0, f.1)) l.1;
}

pub same_then : (s mid new : Side) → SameSide s mid → SameSide mid new → SameSide s new
same_then s mid new h k = record {
  takes = λ N X d. iff_then (k.takes N X d) (h.takes N X d);
  fine = λ allowed ranks bound f. k.fine allowed ranks bound (h.fine allowed ranks bound f);
  tops = λ known f. k.tops known (h.tops known f);
}

pub shortens_then : (i : ℕ) (other s mid new : Side) → Shortens i other s mid → SameSide mid new → Shortens i other s new
shortens_then i other s mid new h k = record {
  takes = λ N X eq d. iff_then (k.takes N X d) (h.takes N X eq d);
  fine = λ allowed ranks bound u l f. k.fine allowed ranks bound (h.fine allowed ranks bound u l f);
  tops = λ known f. k.tops known (h.tops known f);
}
