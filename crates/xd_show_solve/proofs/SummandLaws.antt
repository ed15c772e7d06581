-- Laws of summands that are put together at once.
use Rattle.std.proofs.Common.{◌≡◌, refl, sym, ap, ◌∙◌, subst, List, [], ◌∷◌, ◌++◌, Option, Some, None}
use Rattle.std.specs.List.{AllByRecursion}
use Rattle.std.specs.Option.{IfSome}
use Rattle.xd_doc.proofs.Lists.{all_push, all_more}
use Rattle.xd_syntax.specs.Tree.{Tree, Alt, Seq}
use Rattle.xd_syntax.specs.TreeForms.{alt_of}
use Rattle.xd_syntax.specs.Table.{Row}
use Rattle.xd_same_types.specs.Grown.{GrowsTypes}
use Rattle.xd_syntax.specs.Types.{BelongsTo, tree}
use Rattle.xd_syntax.specs.declared.types.TypeId.{TypeId}
use Rattle.xd_same_types.specs.Same.{HasTops, MeansSame, trees}
use Rattle.xd_show_solve.specs.Equations.{Product, Side, AddsProduct, AddsConstant, AddsMultiple, SameSide, SumStands, TermsStand, product_in, products, side_in}
use Rattle.xd_show_solve.specs.Summands.{MeansOne, SummandsStand, one_in, summands_in}
use Rattle.xd_show_solve.specs.declared.sums.Term.{Term}
use Rattle.xd_show_solve.specs.declared.sums.Sum.{Sum}
use Rattle.xd_show_solve.specs.declared.summands.Summands.{Summands}
use Rattle.xd_same_types.proofs.AltLaws.{alt_push}
use Rattle.xd_same_types.proofs.Facts.{iff_then, or_same}
use Rattle.xd_same_types.proofs.Laws.{same_at, same_of, same_then, seq_same}
use Rattle.xd_same_types.proofs.Tables.{kept_belongs, kept_tree, kept_trees, trees_append}
use Rattle.xd_show_solve.proofs.SideLaws.{a_side, constant_first, constant_more, multiple_constant, product_pushed}
use Rattle.xd_show_solve.proofs.SumSteps.{constant_of, constant_stays, products_append, products_kept, terms_kept}

one_kept : (a b : List Row) → GrowsTypes a b → (o : Option TypeId) (ids : List TypeId) → IfSome o (BelongsTo a) → AllByRecursion (BelongsTo a) ids → one_in b o ids ≡ one_in a o ids
one_kept a b k None ids h i = refl
one_kept a b k (Some id) ids h i =
    ap (λ (T : Tree). Some (alt_of (T ∷ trees b ids))) (kept_tree a b k id h) ∙ ap (λ (Ts : List Tree). Some (alt_of (tree a id ∷ Ts))) (kept_trees a b k ids i)

pub summands_kept : (a b : List Row) → GrowsTypes a b → (s : Summands) → SummandsStand a s → summands_in b s ≡ summands_in a s
summands_kept a b k s h =
    ap (λ ps. a_side ps (one_in b s.first s.more.items)) (products_kept a b k s.terms.items h.terms)
    ∙ ap (a_side (products a s.terms.items)) (one_kept a b k s.first s.more.items h.first h.more)

pub summands_stay : (a b : List Row) → GrowsTypes a b → (s : Summands) → SummandsStand a s → SummandsStand b s
summands_stay a b k s h = record {
  terms = terms_kept a b k s.terms.items h.terms;
  first = constant_stays a b k s.first h.first;
  more = all_more (BelongsTo a) (BelongsTo b) s.more.items (λ x. kept_belongs a b k x) h.more;
}

pub term_adds : (a : List Row) (s : Summands) (t : Summands) (term : Term) → t.terms.items ≡ s.terms.items ++ term ∷ [] → t.first ≡ s.first → t.more.items ≡ s.more.items → AddsProduct (summands_in a s) (product_in a term) (summands_in a t)
term_adds a s t term e f g =
    let o = one_in a s.first s.more.items in
    let is : summands_in a t ≡ a_side (products a s.terms.items ++ product_in a term ∷ []) o =
    ap (λ ts. a_side (products a ts) (one_in a t.first t.more.items)) e
    ∙ ap (λ ps. a_side ps (one_in a t.first t.more.items)) (products_append a s.terms.items (term ∷ []))
    ∙ ap (λ x. a_side (products a s.terms.items ++ product_in a term ∷ []) (one_in a x t.more.items)) f
    ∙ ap (λ ids. a_side (products a s.terms.items ++ product_in a term ∷ []) (one_in a s.first ids)) g in
    subst (AddsProduct (summands_in a s) (product_in a term)) (sym is) (product_pushed (products a s.terms.items) o (product_in a term))

-- the first type alone
pub first_adds : (a : List Row) (s : Summands) (t : Summands) (id : TypeId) → s.first ≡ None → t.terms.items ≡ s.terms.items → t.first ≡ Some id → t.more.items ≡ [] → AddsConstant (summands_in a s) (tree a id) (summands_in a t)
first_adds a s t id n e f g =
    let ps = products a s.terms.items in
    let is : summands_in a t ≡ a_side ps (Some (tree a id)) =
    ap (λ ts. a_side (products a ts) (one_in a t.first t.more.items)) e ∙ ap (λ x. a_side ps (one_in a x t.more.items)) f ∙ ap (λ ids. a_side ps (one_in a (Some id) ids)) g in
    let was : summands_in a s ≡ a_side ps None = ap (λ x. a_side ps (one_in a x s.more.items)) n in
    subst (AddsConstant (summands_in a s) (tree a id)) (sym is) (subst (λ x. AddsConstant x (tree a id) (a_side ps (Some (tree a id)))) (sym was) (constant_first ps (tree a id)))

-- one alternative more
pub more_adds : (a : List Row) (s : Summands) (t : Summands) (first id : TypeId) → s.first ≡ Some first → t.terms.items ≡ s.terms.items → t.first ≡ s.first → t.more.items ≡ s.more.items ++ id ∷ [] → AddsConstant (summands_in a s) (tree a id) (summands_in a t)
more_adds a s t first id n e f g =
    let ps = products a s.terms.items in
    let T = alt_of (tree a first ∷ trees a s.more.items) in
    let U = alt_of (tree a first ∷ trees a (s.more.items ++ id ∷ [])) in
    let is : summands_in a t ≡ a_side ps (Some U) =
    ap (λ ts. a_side (products a ts) (one_in a t.first t.more.items)) e ∙ ap (λ x. a_side ps (one_in a x t.more.items)) (f ∙ n) ∙ ap (λ ids. a_side ps (one_in a (Some first) ids)) g in
    let was : summands_in a s ≡ a_side ps (Some T) = ap (λ x. a_side ps (one_in a x s.more.items)) n in
    let same : MeansSame U (Alt T (tree a id)) = same_at (ap (λ Ts. alt_of (tree a first ∷ Ts)) (trees_append a s.more.items (id ∷ []))) refl (alt_push (tree a first) (trees a s.more.items) (tree a id)) in
    subst (AddsConstant (summands_in a s) (tree a id)) (sym is) (subst (λ x. AddsConstant x (tree a id) (a_side ps (Some U))) (sym was) (constant_more ps T (tree a id) U same))

pub term_stands : (a : List Row) (s : Summands) (t : Summands) (term : Term) → SummandsStand a s → BelongsTo a term.by → t.terms.items ≡ s.terms.items ++ term ∷ [] → t.first ≡ s.first → t.more.items ≡ s.more.items → SummandsStand a t
term_stands a s t term h b e f g = record {
  terms = subst (TermsStand a) (sym e) (all_push (λ (u : Term). BelongsTo a u.by) s.terms.items term h.terms b);
  first = subst (λ o. IfSome o (BelongsTo a)) (sym f) h.first;
  more = subst (AllByRecursion (BelongsTo a)) (sym g) h.more;
}

pub first_stands : (a : List Row) (s : Summands) (t : Summands) (id : TypeId) → SummandsStand a s → BelongsTo a id → t.terms.items ≡ s.terms.items → t.first ≡ Some id → t.more.items ≡ [] → SummandsStand a t
first_stands a s t id h b e f g = record {
  terms = subst (TermsStand a) (sym e) h.terms;
  first = subst (λ o. IfSome o (BelongsTo a)) (sym f) b;
  more = subst (AllByRecursion (BelongsTo a)) (sym g) tt;
}

pub more_stands : (a : List Row) (s : Summands) (t : Summands) (id : TypeId) → SummandsStand a s → BelongsTo a id → t.terms.items ≡ s.terms.items → t.first ≡ s.first → t.more.items ≡ s.more.items ++ id ∷ [] → SummandsStand a t
more_stands a s t id h b e f g = record {
  terms = subst (TermsStand a) (sym e) h.terms;
  first = subst (λ o. IfSome o (BelongsTo a)) (sym f) h.first;
  more = subst (AllByRecursion (BelongsTo a)) (sym g) (all_push (BelongsTo a) s.more.items id h.more b);
}

-- a multiple of the constant too
pub multiple_whole : (a m b : List Row) → GrowsTypes a m → (old now new : Side) (by : TypeId) (s : Sum) (constant product : TypeId) → BelongsTo a by → BelongsTo a constant → s.constant ≡ Some constant →
    AddsMultiple old (tree a by) (a_side (products a s.terms.items) None) now → MeansSame (tree b product) (Seq (tree m by) (tree m constant)) → AddsConstant now (tree b product) new →
    AddsMultiple old (tree a by) (side_in a s) new
multiple_whole a m b am old now new by s constant product l n e w v t =
    let v2 = same_then v (seq_same (same_of (kept_tree a m am by l)) (same_of (kept_tree a m am constant n))) in
    subst (λ o. AddsMultiple old (tree a by) (a_side (products a s.terms.items) (constant_of a o)) new) (sym e)
    (multiple_constant old now new (tree a by) (tree b product) (tree a constant) (products a s.terms.items) w v2 t)

-- without a constant
pub multiple_bare : (a : List Row) (old now : Side) (by : TypeId) (s : Sum) → s.constant ≡ None → AddsMultiple old (tree a by) (a_side (products a s.terms.items) None) now → AddsMultiple old (tree a by) (side_in a s) now
multiple_bare a old now by s e w = subst (λ o. AddsMultiple old (tree a by) (a_side (products a s.terms.items) (constant_of a o)) now) (sym e) w

-- another type alone that means the same
pub constant_same : (ps : List Product) (o p : Option Tree) → MeansOne o p → SameSide (a_side ps o) (a_side ps p)
constant_same ps None None s = record { takes = λ N X d. (λ x. x, λ x. x); fine = λ allowed ranks bound f. f; tops = λ known f. f }
constant_same ps (Some T) None s = absurd s
constant_same ps None (Some U) s = absurd s
constant_same ps (Some T) (Some U) s = record {
  takes = λ N X d. or_same (λ x. x, λ x. x) (s.both N d);
  fine = λ allowed ranks bound f. f;
  tops = λ known f. (f.0, s.tops known ∙ f.1);
}

-- all together
pub together : (a m b : List Row) → GrowsTypes a m → GrowsTypes m b → (s : Summands) (made : Sum) → SummandsStand a s → TermsStand m made.terms.items →
    ((o : Option Tree) → SameSide (a_side (products a s.terms.items) o) (a_side (products m made.terms.items) o)) → MeansOne (one_in m s.first s.more.items) (constant_of b made.constant) → SameSide (summands_in a s) (side_in b made)
together a m b am mb s made h t same one =
    let o = one_in a s.first s.more.items in
    let p = constant_of b made.constant in
    let means : MeansOne o p = subst (λ x. MeansOne x p) (one_kept a m am s.first s.more.items h.first h.more) one in
    subst (λ ps. SameSide (summands_in a s) (a_side ps p)) (sym (products_kept m b mb made.terms.items t))
    (side_then (summands_in a s) (a_side (products m made.terms.items) o) (a_side (products m made.terms.items) p) (same o) (constant_same (products m made.terms.items) o p means))
  where
    side_then : (x y z : Side) → SameSide x y → SameSide y z → SameSide x z
    side_then x y z h k = record {
      takes = λ N X d. iff_then (k.takes N X d) (h.takes N X d);
      fine = λ allowed ranks bound f. k.fine allowed ranks bound (h.fine allowed ranks bound f);
      tops = λ known f. k.tops known (h.tops known f);
    }
