-- Sums over a table that grows.
use Rattle.std.proofs.Common.{◌≡◌, ℕ, zero, suc, ◌+◌, ◌<◌, arith, refl, sym, ap, ◌∙◌, subst, List, [], ◌∷◌, ◌++◌, length, take, get_or, set, Option, Some, None}
use Rattle.std.specs.Option.{IfSome, option_map}
use Rattle.xd_doc.proofs.Lists.{all_there}
use Rattle.xd_syntax.specs.Tree.{Tree, Seq, Alt}
use Rattle.xd_syntax.specs.Table.{Row, tree_at}
use Rattle.xd_same_types.specs.Grown.{GrowsTypes}
use Rattle.xd_syntax.specs.Types.{BelongsTo, tree}
use Rattle.xd_syntax.specs.declared.types.TypeId.{TypeId}
use Rattle.xd_same_types.specs.Same.{MeansSame}
use Rattle.xd_show_solve.specs.Equations.{Side, AddsProduct, AddsConstant, AddsMultiple, SumStands, product_in, side_in}
pub use Rattle.xd_show_solve.specs.Equations.{TermsStand, products}
use Rattle.xd_show_solve.specs.declared.sums.Term.{Term}
use Rattle.xd_show_solve.specs.declared.sums.Sum.{Sum}
use Rattle.xd_same_types.proofs.Laws.{same_then, same_of, alt_same, seq_same}
use Rattle.xd_show_solve.proofs.SideLaws.{a_side, a_product, product_pushed, product_put, constant_first, constant_more, multiple_more, multiple_constant}
use Rattle.xd_same_types.proofs.Ids.{take_read}
use Rattle.xd_same_types.proofs.Tables.{kept_tree, kept_belongs}

abbrev pub constant_of : List Row → Option TypeId → Option Tree
constant_of a o = option_map (λ (id : TypeId). tree_at a id.at) o

pub products_kept : (a b : List Row) → GrowsTypes a b → (ts : List Term) → TermsStand a ts → products b ts ≡ products a ts
products_kept a b k [] h = refl
products_kept a b k (t ∷ ts) h = let e = kept_tree a b k t.by h.0 in let i = products_kept a b k ts h.1 in
    ap (λ T. a_product T t.to ∷ products b ts) e ∙ ap (λ ps. product_in a t ∷ ps) i

pub constant_kept : (a b : List Row) → GrowsTypes a b → (o : Option TypeId) → IfSome o (BelongsTo a) → constant_of b o ≡ constant_of a o
constant_kept a b k None h = refl
constant_kept a b k (Some id) h = ap (λ (T : Tree). Some T) (kept_tree a b k id h)

pub side_kept : (a b : List Row) → GrowsTypes a b → (s : Sum) → SumStands a s → side_in b s ≡ side_in a s
side_kept a b k s h =
    ap (λ ps. a_side ps (constant_of b s.constant)) (products_kept a b k s.terms.items h.terms)
    ∙ ap (a_side (products a s.terms.items)) (constant_kept a b k s.constant h.constant)

pub terms_kept : (a b : List Row) → GrowsTypes a b → (ts : List Term) → TermsStand a ts → TermsStand b ts
terms_kept a b k [] h = tt
terms_kept a b k (t ∷ ts) h = (kept_belongs a b k t.by h.0, terms_kept a b k ts h.1)

pub constant_stays : (a b : List Row) → GrowsTypes a b → (o : Option TypeId) → IfSome o (BelongsTo a) → IfSome o (BelongsTo b)
constant_stays a b k None h = tt
constant_stays a b k (Some id) h = kept_belongs a b k id h

pub stands_kept : (a b : List Row) → GrowsTypes a b → (s : Sum) → SumStands a s → SumStands b s
stands_kept a b k s h = record { terms = terms_kept a b k s.terms.items h.terms; constant = constant_stays a b k s.constant h.constant }

-- a constant in the place of one
pub constant_put : (a b : List Row) → GrowsTypes a b → (s t : Sum) (old id made : TypeId) → SumStands a s → s.constant ≡ Some old → t.terms.items ≡ s.terms.items → t.constant ≡ Some made →
    MeansSame (tree b made) (Alt (tree a old) (tree a id)) → AddsConstant (side_in a s) (tree a id) (side_in b t)
constant_put a b k s t old id made h e f g m =
    subst (λ x. AddsConstant x (tree a id) (side_in b t)) (sym (ap (λ o. a_side (products a s.terms.items) (constant_of a o)) e))
    (subst (AddsConstant (a_side (products a s.terms.items) (Some (tree a old))) (tree a id))
    (sym (ap (λ o. a_side (products b t.terms.items) (constant_of b o)) g ∙ ap (λ ts. a_side (products b ts) (Some (tree b made))) f ∙ ap (λ ps. a_side ps (Some (tree b made))) (products_kept a b k s.terms.items h.terms)))
    (constant_more (products a s.terms.items) (tree a old) (tree a id) (tree b made) m))

-- the first constant
pub constant_put_first : (a : List Row) (s t : Sum) (id : TypeId) → s.constant ≡ None → t.terms.items ≡ s.terms.items → t.constant ≡ Some id → AddsConstant (side_in a s) (tree a id) (side_in a t)
constant_put_first a s t id e f g =
    subst (λ x. AddsConstant x (tree a id) (side_in a t)) (sym (ap (λ o. a_side (products a s.terms.items) (constant_of a o)) e))
    (subst (AddsConstant (a_side (products a s.terms.items) None) (tree a id))
    (sym (ap (λ o. a_side (products a t.terms.items) (constant_of a o)) g ∙ ap (λ ts. a_side (products a ts) (Some (tree a id))) f))
    (constant_first (products a s.terms.items) (tree a id)))

pub products_append : (a : List Row) (ts us : List Term) → products a (ts ++ us) ≡ products a ts ++ products a us
products_append a [] us = refl
products_append a (t ∷ ts) us = ap (λ ps. product_in a t ∷ ps) (products_append a ts us)

products_set : (a : List Row) (ts : List Term) (k : ℕ) (u : Term) → products a (set ts k u) ≡ set (products a ts) k (product_in a u)
products_set a [] k u = refl
products_set a (t ∷ ts) zero u = refl
products_set a (t ∷ ts) (suc k) u = ap (λ ps. product_in a t ∷ ps) (products_set a ts k u)

products_count : (a : List Row) (ts : List Term) → length (products a ts) ≡ length ts
products_count a [] = refl
products_count a (t ∷ ts) = ap suc (products_count a ts)

products_got : (a : List Row) (ts : List Term) (k : ℕ) (t : Term) → k < length ts → t ≡ get_or ts k t → product_in a t ≡ get_or (products a ts) k (product_in a t)
products_got a [] k t l e = absurd (omega arith)
products_got a (u ∷ us) zero t l e = ap (product_in a) e
products_got a (u ∷ us) (suc k) t l e = let m : k < length us = omega arith in products_got a us k t m e

-- one more term
pub term_pushed : (a b : List Row) → GrowsTypes a b → (s t : Sum) (term : Term) → SumStands a s → BelongsTo a term.by → t.terms.items ≡ s.terms.items ++ term ∷ [] → t.constant ≡ s.constant →
    AddsProduct (side_in a s) (product_in a term) (side_in b t)
term_pushed a b k s t term h l e f =
    let ps = ap (products b) e ∙ products_append b s.terms.items (term ∷ []) ∙ ap (λ ps. ps ++ product_in b term ∷ []) (products_kept a b k s.terms.items h.terms)
    ∙ ap (λ T. products a s.terms.items ++ a_product T term.to ∷ []) (kept_tree a b k term.by l) in
    subst (AddsProduct (side_in a s) (product_in a term))
    (sym (ap (λ qs. a_side qs (constant_of b t.constant)) ps ∙ ap (λ o. a_side (products a s.terms.items ++ product_in a term ∷ []) (constant_of b o)) f
    ∙ ap (a_side (products a s.terms.items ++ product_in a term ∷ [])) (constant_kept a b k s.constant h.constant)))
    (product_pushed (products a s.terms.items) (constant_of a s.constant) (product_in a term))

-- a term in the place of one
pub term_put : (a m b : List Row) → GrowsTypes a m → GrowsTypes m b → GrowsTypes a b → (s t : Sum) (term old made : Term) (i : ℕ) → SumStands a s → BelongsTo a term.by → i < length s.terms.items → old ≡ get_or s.terms.items i old →
    old.to ≡ term.to → made.to ≡ term.to → t.terms.items ≡ set s.terms.items i made → t.constant ≡ s.constant → MeansSame (tree b made.by) (Alt (tree m old.by) (tree m term.by)) →
    AddsProduct (side_in a s) (product_in a term) (side_in b t)
term_put a m b am mb ab s t term old made i h l n e q r f g w =
    let bo : BelongsTo a old.by = all_there (λ (u : Term). BelongsTo a u.by) s.terms.items i old h.terms n e in
    let v = same_then w (alt_same (same_of (kept_tree a m am old.by bo)) (same_of (kept_tree a m am term.by l))) in
    let ps = ap (products b) f ∙ products_set b s.terms.items i made ∙ ap (λ xs. set xs i (product_in b made)) (products_kept a b ab s.terms.items h.terms)
    ∙ ap (λ j. set (products a s.terms.items) i (a_product (tree b made.by) j)) r in
    let at = subst (λ j. a_product (tree a old.by) j ≡ get_or (products a s.terms.items) i (a_product (tree a old.by) j)) q (products_got a s.terms.items i old n e) in
    let count = subst (λ x. i < x) (sym (products_count a s.terms.items)) n in
    subst (AddsProduct (side_in a s) (product_in a term))
    (sym (ap (λ qs. a_side qs (constant_of b t.constant)) ps ∙ ap (λ o. a_side (set (products a s.terms.items) i (a_product (tree b made.by) term.to)) (constant_of b o)) g
    ∙ ap (a_side (set (products a s.terms.items) i (a_product (tree b made.by) term.to))) (constant_kept a b ab s.constant h.constant)))
    (product_put (products a s.terms.items) (constant_of a s.constant) i (tree a old.by) (tree a term.by) (tree b made.by) term.to count at v)

-- a multiple of one term more
pub term_more : (a m b : List Row) → GrowsTypes a m → (old now new : Side) (by : TypeId) (ts : List Term) (i : ℕ) (term : Term) (product : TypeId) → TermsStand a ts → BelongsTo a by → i < length ts → term ≡ get_or ts i term →
    AddsMultiple old (tree a by) (a_side (products a (take i ts)) None) now → MeansSame (tree b product) (Seq (tree m by) (tree m term.by)) → AddsProduct now (product_in b (record { by = product; to = term.to })) new →
    AddsMultiple old (tree a by) (a_side (products a (take (i + 1) ts)) None) new
term_more a m b am old now new by ts i term product h l n e s w t =
    let bt : BelongsTo a term.by = all_there (λ (u : Term). BelongsTo a u.by) ts i term h n e in
    let v = same_then w (seq_same (same_of (kept_tree a m am by l)) (same_of (kept_tree a m am term.by bt))) in
    subst (λ ps. AddsMultiple old (tree a by) (a_side ps None) new) (sym (ap (products a) (take_read ts i term n e) ∙ products_append a (take i ts) (term ∷ [])))
    (multiple_more old now new (tree a by) (tree b product) (products a (take i ts)) (product_in a term) s v t)

-- a multiple of the constant too
pub constant_multiple : (a m b : List Row) → GrowsTypes a m → GrowsTypes m b → (old new : Side) (by : TypeId) (s made : Sum) (constant product : TypeId) → SumStands a s → SumStands m made → BelongsTo a by → BelongsTo a constant → s.constant ≡ Some constant →
    AddsMultiple old (tree a by) (a_side (products a s.terms.items) None) (side_in m made) → MeansSame (tree b product) (Seq (tree m by) (tree m constant)) → AddsConstant (side_in b made) (tree b product) new →
    AddsMultiple old (tree a by) (side_in a s) new
constant_multiple a m b am mb old new by s made constant product h g l n e w v t =
    let v2 = same_then v (seq_same (same_of (kept_tree a m am by l)) (same_of (kept_tree a m am constant n))) in
    subst (λ o. AddsMultiple old (tree a by) (a_side (products a s.terms.items) (constant_of a o)) new) (sym e)
    (multiple_constant old (side_in m made) new (tree a by) (tree b product) (tree a constant) (products a s.terms.items) w v2
    (subst (λ x. AddsConstant x (tree b product) new) (side_kept m b mb made g) t))

pub take_products : (a : List Row) (ts : List Term) (i : ℕ) (term : Term) → i < length ts → term ≡ get_or ts i term → products a (take (i + 1) ts) ≡ products a (take i ts) ++ product_in a term ∷ []
take_products a ts i term n e = ap (products a) (take_read ts i term n e) ∙ products_append a (take i ts) (term ∷ [])

pub product_kept : (a b : List Row) → GrowsTypes a b → (t : Term) → BelongsTo a t.by → product_in b t ≡ product_in a t
product_kept a b k t h = ap (λ T. a_product T t.to) (kept_tree a b k t.by h)

pub term_belongs : (a : List Row) (ts : List Term) (i : ℕ) (term : Term) → TermsStand a ts → i < length ts → term ≡ get_or ts i term → BelongsTo a term.by
term_belongs a ts i term h n e = all_there (λ (u : Term). BelongsTo a u.by) ts i term h n e
