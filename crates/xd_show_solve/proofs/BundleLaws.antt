-- Laws of terms gathered by their unknowns.
use Rattle.std.proofs.Common.{◌≡◌, ℕ, zero, suc, ◌+◌, ◌<◌, arith, refl, sym, ap, ◌∙◌, subst, List, [], ◌∷◌, ◌++◌, map, length, take, get_or, set, Option}
use Rattle.std.specs.List.{AllByRecursion}
use Rattle.xd_doc.proofs.Lists.{all_push, all_set, all_there, map_append, length-mapped}
use Rattle.xd_syntax.specs.Tree.{Tree, Alt}
use Rattle.xd_syntax.specs.TreeForms.{alt_of}
use Rattle.xd_syntax.specs.Table.{Row}
use Rattle.xd_same_types.specs.Grown.{GrowsTypes}
use Rattle.xd_syntax.specs.Types.{BelongsTo, tree}
use Rattle.xd_syntax.specs.declared.types.TypeId.{TypeId}
use Rattle.xd_same_types.specs.Same.{MeansSame, trees}
use Rattle.xd_show_solve.specs.Equations.{AddsProduct, SameSide, TermsStand, product_in, products}
use Rattle.xd_show_solve.specs.Bundles.{BundleStands, BundlesStand, bundle_in, bundles_in}
use Rattle.xd_show_solve.specs.declared.bundles.Bundle.{Bundle}
use Rattle.xd_show_solve.specs.declared.sums.Term.{Term}
use Rattle.xd_same_types.proofs.AltLaws.{alt_push}
use Rattle.xd_same_types.proofs.Ids.{take_read}
use Rattle.xd_same_types.proofs.Laws.{same_at}
use Rattle.xd_show_solve.proofs.ShortLaws.{same_more}
use Rattle.xd_show_solve.proofs.SideLaws.{a_product, a_side, adds_as, product_pushed, product_put}
use Rattle.xd_show_solve.proofs.SumSteps.{products_append, products_kept}
use Rattle.xd_same_types.proofs.Tables.{kept_trees, kept_tree, trees_append}

map_set : {A B : Type 0} (f : A → B) (xs : List A) (k : ℕ) (y : A) → map f (set xs k y) ≡ set (map f xs) k (f y)
map_set f [] k y = refl
map_set f (x ∷ xs) zero y = refl
map_set f (x ∷ xs) (suc k) y = ap (λ ys. f x ∷ ys) (map_set f xs k y)

map_got : {A B : Type 0} (f : A → B) (xs : List A) (k : ℕ) (x : A) → k < length xs → x ≡ get_or xs k x → f x ≡ get_or (map f xs) k (f x)
map_got f [] k x l e = absurd (omega arith)
map_got f (y ∷ ys) zero x l e = ap f e
map_got f (y ∷ ys) (suc k) x l e = let m : k < length ys = omega arith in map_got f ys k x m e

-- one type more in a bundle
pub bundle_put : (types : List Row) (o : Option Tree) (bs : List Bundle) (k : ℕ) (b new : Bundle) (id : TypeId) → k < length bs → b ≡ get_or bs k b →
    new.first ≡ b.first → new.more.items ≡ b.more.items ++ id ∷ [] → new.to ≡ b.to →
    AddsProduct (a_side (bundles_in types bs) o) (a_product (tree types id) b.to) (a_side (bundles_in types (set bs k new)) o)
bundle_put types o bs k b new id l e f g h =
    let T = alt_of (tree types b.first ∷ trees types b.more.items) in
    let V = alt_of (tree types b.first ∷ trees types (b.more.items ++ id ∷ [])) in
    let s : MeansSame V (Alt T (tree types id)) =
    same_at (ap (λ ts. alt_of (tree types b.first ∷ ts)) (trees_append types b.more.items (id ∷ []))) refl (alt_push (tree types b.first) (trees types b.more.items) (tree types id)) in
    let m : k < length (bundles_in types bs) = subst (λ n. k < n) (sym (length-mapped (bundle_in types) bs)) l in
    let is : bundle_in types new ≡ a_product V b.to =
    ap (λ x. a_product (alt_of (tree types x ∷ trees types new.more.items)) new.to) f
    ∙ ap (λ xs. a_product (alt_of (tree types b.first ∷ trees types xs)) new.to) g ∙ ap (a_product V) h in
    subst (λ ps. AddsProduct (a_side (bundles_in types bs) o) (a_product (tree types id) b.to) (a_side ps o))
    (sym (map_set (bundle_in types) bs k new ∙ ap (set (bundles_in types bs) k) is))
    (product_put (bundles_in types bs) o k T (tree types id) V b.to m (map_got (bundle_in types) bs k b l e) s)

-- a bundle of one type
pub bundle_pushed : (types : List Row) (o : Option Tree) (bs : List Bundle) (new : Bundle) (t : Term) → new.first ≡ t.by → new.more.items ≡ [] → new.to ≡ t.to →
    AddsProduct (a_side (bundles_in types bs) o) (product_in types t) (a_side (bundles_in types (bs ++ new ∷ [])) o)
bundle_pushed types o bs new t f g h =
    let is : bundle_in types new ≡ product_in types t =
    ap (λ x. a_product (alt_of (tree types x ∷ trees types new.more.items)) new.to) f
    ∙ ap (λ xs. a_product (alt_of (tree types t.by ∷ trees types xs)) new.to) g ∙ ap (a_product (tree types t.by)) h in
    subst (λ ps. AddsProduct (a_side (bundles_in types bs) o) (product_in types t) (a_side ps o))
    (sym (map_append (bundle_in types) bs (new ∷ []) ∙ ap (λ p. bundles_in types bs ++ p ∷ []) is))
    (product_pushed (bundles_in types bs) o (product_in types t))

pub put_stands : (types : List Row) (bs : List Bundle) (k : ℕ) (b new : Bundle) (id : TypeId) → BundlesStand types bs → BelongsTo types id → k < length bs → b ≡ get_or bs k b →
    new.first ≡ b.first → new.more.items ≡ b.more.items ++ id ∷ [] → BundlesStand types (set bs k new)
put_stands types bs k b new id h i l e f g =
    let old = all_there (BundleStands types) bs k b h l e in
    all_set (BundleStands types) bs k new h (record {
      first = subst (BelongsTo types) (sym f) old.first;
      more = subst (AllByRecursion (BelongsTo types)) (sym g) (all_push (BelongsTo types) b.more.items id old.more i);
    })

pub pushed_stands : (types : List Row) (bs : List Bundle) (new : Bundle) (t : Term) → BundlesStand types bs → BelongsTo types t.by → new.first ≡ t.by → new.more.items ≡ [] → BundlesStand types (bs ++ new ∷ [])
pushed_stands types bs new t h i f g =
    all_push (BundleStands types) bs new h (record { first = subst (BelongsTo types) (sym f) i; more = subst (AllByRecursion (BelongsTo types)) (sym g) tt })

-- one bundle more as a term
pub bundle_term : (a m b : List Row) → GrowsTypes a m → GrowsTypes m b → (bs : List Bundle) (k : ℕ) (x : Bundle) (ts : List Term) (t : Term) → BundlesStand a bs → TermsStand m ts → k < length bs → x ≡ get_or bs k x → t.to ≡ x.to →
    MeansSame (tree b t.by) (alt_of (tree m x.first ∷ trees m x.more.items)) → (o : Option Tree) → SameSide (a_side (bundles_in a (take k bs)) o) (a_side (products m ts) o) →
    SameSide (a_side (bundles_in a (take (k + 1) bs)) o) (a_side (products b (ts ++ t ∷ [])) o)
bundle_term a m b am mb bs k x ts t h hs l e q s o w =
    let bx = all_there (BundleStands a) bs k x h l e in
    let v = same_at {U = alt_of (tree a x.first ∷ trees a x.more.items)} refl (ap (λ y. alt_of (y ∷ trees a x.more.items)) (sym (kept_tree a m am x.first bx.first)) ∙ ap (λ ys. alt_of (tree m x.first ∷ ys)) (sym (kept_trees a m am x.more.items bx.more))) s in
    let adds : AddsProduct (a_side (products m ts) o) (bundle_in a x) (a_side (products m ts ++ a_product (tree b t.by) x.to ∷ []) o) =
    adds_as _ _ (tree b t.by) _ x.to (product_pushed (products m ts) o (a_product (tree b t.by) x.to)) v in
    let new : products b (ts ++ t ∷ []) ≡ products m ts ++ a_product (tree b t.by) x.to ∷ [] =
    products_append b ts (t ∷ []) ∙ ap (λ ps. ps ++ product_in b t ∷ []) (products_kept m b mb ts hs) ∙ ap (λ i. products m ts ++ a_product (tree b t.by) i ∷ []) q in
    let old : bundles_in a (take (k + 1) bs) ≡ bundles_in a (take k bs) ++ bundle_in a x ∷ [] =
    ap (bundles_in a) (take_read bs k x l e) ∙ map_append (bundle_in a) (take k bs) (x ∷ []) in
    subst (λ ps. SameSide (a_side ps o) (a_side (products b (ts ++ t ∷ [])) o)) (sym old)
    (subst (λ ps. SameSide (a_side (bundles_in a (take k bs) ++ bundle_in a x ∷ []) o) (a_side ps o)) (sym new)
    (same_more (a_side (products m ts) o) (a_side (products m ts ++ a_product (tree b t.by) x.to ∷ []) o) (bundles_in a (take k bs)) o (bundle_in a x) w adds))
