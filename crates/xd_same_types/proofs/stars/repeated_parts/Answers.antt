use Rattle.std.proofs.Common.{◌<◌, length, get_or, sym, ap, ◌∙◌, subst}
use Rattle.std.proofs.lemmas.List.{take_all}
use Rattle.xd_doc.proofs.Lists.{all_there}
use Rattle.xd_syntax.specs.TreeForms.{alt_of}
use Rattle.xd_syntax.specs.Types.{BelongsTo}
use Rattle.xd_same_types.specs.Same.{AreAltParts, AreStripped, trees}
use Rattle.xd_same_types.proofs.Ids.{got}
use Rattle.xd_same_types.proofs.StarLaws.{stripped_none, strip_more, stripped_star}
use Rattle.xd_same_types.proofs.Tables.{keeps_refl, keeps_then, kept_belongs, alt_belong, some_trees}
use Rattle.xd_same_types.proofs.stars.repeated_parts.Goals as goal

pub loop-part-init : goal.loop-part-init
loop-part-init c = record {
  keeps = keeps_refl _;
  made = subst (AreAltParts c.args.pool.now.types) (sym c.no_alternatives-made.ensures) tt;
  parts = subst (AreAltParts c.args.pool.now.types) (sym c.deref-part-items.ensures.value) c.in_ok-parts.ensures.parts;
  stripped = subst (λ xs. AreStripped (trees c.args.pool.now.types xs) _) (sym c.no_alternatives-made.ensures) stripped_none;
}

pub add_stripped-requires-clause-part : goal.add_stripped-requires-clause-part
add_stripped-requires-clause-part c =
    let inv = c.loop-part.invariant in
    let items = c.deref-part-items.result.now in
    let k = c.loop-part.part-index in
    let part = get_or items k (record { at = 0 }) in
    kept_belongs _ _ inv.keeps part (all_there (BelongsTo c.args.pool.now.types) items k part (alt_belong _ items inv.parts) c.loop-part-test.true (got items k _ c.loop-part-test.true))

pub loop-part-preserved : goal.loop-part-preserved
loop-part-preserved c =
    let inv = c.loop-part.invariant in
    let items = c.deref-part-items.result.now in
    let k = c.loop-part.part-index in
    record {
      keeps = keeps_then _ _ _ inv.keeps c.add_stripped.ensures.keeps;
      made = c.in_ok-add_stripped.ensures.made;
      parts = inv.parts;
      stripped = strip_more _ _ _ inv.keeps _ _ items k _ inv.parts c.loop-part-test.true (got items k _ c.loop-part-test.true) inv.stripped c.in_ok-add_stripped.ensures.strips;
    }

pub returns-clause-same : goal.returns-clause-same
returns-clause-same c =
    let rows = c.args.pool.now.types in
    let inv = c.loop-part.invariant in
    let items = c.deref-part-items.result.now in
    let v = c.deref-part-items.ensures.value in
    let whole = subst (λ xs. AreStripped (trees c.loop-part.pool.types c.loop-part.made.parts.items) (trees rows xs)) (take_all c.loop-part.part-index items c.loop-part-test.false) inv.stripped in
    let e = ap (λ xs. alt_of (trees rows xs)) v ∙ c.in_ok-parts.ensures.tree in
    let l = some_trees rows items (subst (λ xs. 0 < length xs) (sym v) c.in_ok-parts.ensures.some) in
    stripped_star _ (trees rows items) _ _ whole e l c.stripped-inner.ensures.same
