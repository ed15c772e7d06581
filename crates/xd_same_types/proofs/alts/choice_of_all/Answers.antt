use Rattle.std.proofs.Common.{◌⊎◌, ◌<◌, ◌||◌, ◌∷◌, [], inl, inr, length, take, get_or, sym, ap, ◌∙◌, subst}
use Rattle.std.proofs.lemmas.List.{take_all}
use Rattle.xd_doc.proofs.Lists.{all_there}
use Rattle.xd_syntax.specs.TreeForms.{alt_of}
use Rattle.xd_syntax.specs.Types.{BelongsTo, tree}
use Rattle.xd_same_types.specs.Same.{AddsFits, IsChoice, trees}
use Rattle.xd_same_types.proofs.AltLaws.{choice_again, choice_more, some_stays}
use Rattle.xd_same_types.proofs.Ids.{got, take_read}
use Rattle.xd_same_types.proofs.Tables.{keeps_then, kept_tree, trees_append}
use Rattle.xd_same_types.proofs.alts.choice_of_all.Goals as goal

pub loop-id-init : goal.loop-id-init
loop-id-init c =
    let rows = c.args.pool.now.types in
    let made = c.add_alternatives.new.some.parts.items in
    let adds = subst (λ xs. AddsFits (trees rows xs) (trees rows c.deref.result.now) (trees c.add_alternatives.new.pool.types made)) c.no_alternatives-some.ensures c.in_ok-add_alternatives.ensures.fits in
    let all = subst (λ xs. AddsFits [] (trees rows xs) (trees c.add_alternatives.new.pool.types made)) c.deref.ensures.value adds in
    record {
      keeps = c.add_alternatives.ensures.keeps;
      parts = c.in_ok-add_alternatives.ensures.parts;
      some = first_some c.in_ok-choice.ensures.some (λ l. c.in_ok-add_alternatives.ensures.some (inr (subst (λ xs. 0 < length xs) (sym c.deref.ensures.value) l)));
      choice = choice_again _ _ _ _ c.in_ok-choice.ensures.fits all;
    }
  where
    first_some : {A B C : Type 0} → A ⊎ C → (A → B) → B ⊎ C
    first_some (inl a) f = inl (f a)
    first_some (inr c) f = inr c

pub loop-id-preserved : goal.loop-id-preserved
loop-id-preserved c =
    let inv = c.loop-id.invariant in
    let rows = c.args.pool.now.types in
    let now = c.loop-id.pool.types in
    let items = c.args.more.now in
    let k = c.loop-id.id-index in
    let id = get_or items k (record { at = 0 }) in
    let e = got items k _ c.loop-id-test.true in
    let b = all_there (BelongsTo rows) items k id c.requires.more c.loop-id-test.true e in
    record {
      keeps = keeps_then _ _ _ inv.keeps c.add_choice.ensures.keeps;
      parts = c.in_ok-also.ensures.parts;
      some = some_stays _ _ inv.some c.in_ok-also.ensures.grows;
      choice = subst (λ xs. IsChoice (alt_of (tree rows c.args.first ∷ xs)) (trees c.add_choice.new.pool.types c.add_choice.new.some.parts.items) (c.loop-id.empty || c.in_ok-also.also)) (sym (ap (trees rows) (take_read items k id c.loop-id-test.true e) ∙ trees_append rows (take k items) (id ∷ [])))
          (choice_more _ _ _ _ _ (kept_tree rows now inv.keeps id b) (c.in_ok-also.ensures.fits _ _ inv.choice));
    }

pub returns-clause-fits : goal.returns-clause-fits
returns-clause-fits c =
    let inv = c.loop-id.invariant in
    let rows = c.args.pool.now.types in
    let items = c.args.more.now in
    subst (λ xs. IsChoice (alt_of (tree rows c.args.first ∷ trees rows xs)) (trees c.loop-id.pool.types c.loop-id.some.parts.items) c.loop-id.empty) (take_all c.loop-id.id-index items c.loop-id-test.false) inv.choice
