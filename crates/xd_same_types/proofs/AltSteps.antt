-- Alternatives in a table as they grow.
use Rattle.std.proofs.Common.{◌≡◌, ℕ, ◌+◌, ◌<◌, sym, ap, ◌∙◌, subst, List, [], ◌∷◌, ◌++◌, take, length, get_or, set}
use Rattle.xd_doc.proofs.Lists.{all_set, all_there}
use Rattle.xd_syntax.specs.Tree.{Alt}
use Rattle.xd_syntax.specs.Table.{Row, IsAltPart}
use Rattle.xd_same_types.specs.Grown.{GrowsTypes}
use Rattle.xd_syntax.specs.Types.{BelongsTo, tree}
use Rattle.xd_syntax.specs.declared.types.TypeId.{TypeId}
use Rattle.xd_same_types.specs.Same.{MeansSame, AreAltParts, AddsFit, AddsFits, trees}
use Rattle.xd_same_types.proofs.Laws.{same_then, same_of, alt_same}
use Rattle.xd_same_types.proofs.AltLaws.{adds_push, adds_put, adds_more}
use Rattle.xd_same_types.proofs.Ids.{take_read}
use Rattle.xd_same_types.proofs.Tables.{kept_trees, kept_tree, kept_alt_parts, keeps_then, alt_belong, trees_append, trees_count, trees_set, tree_got}

pub put_alternative : (a m b : List Row) → GrowsTypes a m → GrowsTypes m b → (parts : List TypeId) (k : ℕ) (old more one : TypeId) → AreAltParts a parts → BelongsTo a more →
    k < length parts → old ≡ get_or parts k old → MeansSame (tree b one) (Alt (tree m old) (tree m more)) → AddsFit (trees a parts) (tree a more) (trees b (set parts k one))
put_alternative a m b am mb parts k old more one h bm l e s =
    let bo : BelongsTo a old = all_there (BelongsTo a) parts k old (alt_belong a parts h) l e in
    let t = same_then s (alt_same (same_of (kept_tree a m am old bo)) (same_of (kept_tree a m am more bm))) in
    let n = subst (λ x. k < x) (sym (trees_count a parts)) l in
    subst (AddsFit (trees a parts) (tree a more))
    (sym (trees_set b parts k one ∙ ap (λ ts. set ts k (tree b one)) (kept_trees a b (keeps_then a m b am mb) parts (alt_belong a parts h))))
    (adds_put (trees a parts) k (tree a old) (tree b one) (tree a more) n (tree_got a parts k old l e) t)

pub push_alternative : (a b : List Row) → GrowsTypes a b → (parts : List TypeId) (more : TypeId) → AreAltParts a parts → BelongsTo a more → AddsFit (trees a parts) (tree a more) (trees b (parts ++ more ∷ []))
push_alternative a b ab parts more h bm =
    subst (AddsFit (trees a parts) (tree a more))
    (sym (trees_append b parts (more ∷ []) ∙ ap (λ ts. ts ++ tree b more ∷ []) (kept_trees a b ab parts (alt_belong a parts h)) ∙ ap (λ t. trees a parts ++ t ∷ []) (kept_tree a b ab more bm)))
    (adds_push (trees a parts) (tree a more))

pub put_parts : (a b : List Row) → GrowsTypes a b → (parts : List TypeId) (k : ℕ) (one : TypeId) → AreAltParts a parts → IsAltPart b one.at → AreAltParts b (set parts k one)
put_parts a b ab parts k one h p = all_set (λ id. IsAltPart b id.at) parts k one (kept_alt_parts a b ab parts h) p

-- one more of a list of alternatives
pub more_alternatives : (a m b : List Row) → GrowsTypes a m → (parts now new more : List TypeId) (i : ℕ) (next : TypeId) → AreAltParts a more → i < length more → next ≡ get_or more i next →
    AddsFits (trees a parts) (trees a (take i more)) (trees m now) → AddsFit (trees m now) (tree m next) (trees b new) → AddsFits (trees a parts) (trees a (take (i + 1) more)) (trees b new)
more_alternatives a m b am parts now new more i next h l e s t =
    let bn : BelongsTo a next = all_there (BelongsTo a) more i next (alt_belong a more h) l e in
    subst (λ ts. AddsFits (trees a parts) ts (trees b new)) (sym (ap (trees a) (take_read more i next l e) ∙ trees_append a (take i more) (next ∷ [])))
    (adds_more (trees a parts) (trees a (take i more)) (trees m now) (trees b new) (tree a next) s (subst (λ x. AddsFit (trees m now) x (trees b new)) (kept_tree a m am next bn) t))
