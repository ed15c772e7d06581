use Rattle.std.proofs.Common.{◌≡◌, ◌<◌, ◌∙◌, refl, ap, sym, subst, arith, length, get_or}
use Rattle.std.proofs.lemmas.List.{length_push}
use Rattle.xd_syntax.specs.SoundTables.{IsTypeAt}
use Rattle.xd_syntax.specs.Types.{form_of}
use Rattle.xd_syntax.specs.declared.types.TypeId.{TypeId}
use Rattle.xd_sound.proofs.AdoptLaws.{AreCopied, AddsTypes-trans, rising_front, copy_inside, is_ready, within_more, copy_goes_on, copy_ends}
use Rattle.xd_sound.proofs.sound.SoundProgram.copy_in.Goals as goal

pub node-requires : goal.node-requires
node-requires c =
    let xs = c.args.reached.now in
    let p = c.loop-place.place in
    let l : p < length xs = omega (arith, c.loop-place-test.true) in
    let k : c.of.result.at ≡ get_or xs p 0 = ap (λ (id : TypeId). id.at) c.of.ensures in
    omega (arith, copy_inside c.args.types.now c.args.id.at xs p c.see_table.ensures.built c.requires.belongs c.requires.reached l)

pub copy_node-requires-clause-rising : goal.copy_node-requires-clause-rising
copy_node-requires-clause-rising c = rising_front c.args.reached.now c.loop-place.place (omega (arith, c.loop-place-test.true)) c.requires.reached.rising

pub copy_node-requires-clause-follows : goal.copy_node-requires-clause-follows
copy_node-requires-clause-follows c =
    let xs = c.args.reached.now in
    let p = c.loop-place.place in
    let cs = c.deref.result.now in
    let done : AreCopied c.args.types.now c.loop-place.self.types xs cs = rw c.deref.ensures.value c.loop-place.invariant.copied in
    let each : p ≡ length cs = c.loop-place.invariant.each ∙ ap length (sym c.deref.ensures.value) in
    let l : p < length xs = omega (arith, c.loop-place-test.true) in
    let k : c.of.result.at ≡ get_or xs p 0 = ap (λ (id : TypeId). id.at) c.of.ensures in
    (is_ready c.args.types.now c.args.id.at xs p c.of.result.at c.node.result.now (form_of c.form-form.result.now) c.loop-place.self.types cs c.see_table.ensures.built c.requires.belongs c.requires.reached
    done each l k c.node.ensures.row c.node.ensures.tree c.node.ensures.merged c.form-form.ensures).follows

pub returns-in_err-copy-clause-within : goal.returns-in_err-copy-clause-within
returns-in_err-copy-clause-within c =
    let xs = c.args.reached.now in
    let p = c.loop-place.place in
    let cs = c.deref.result.now in
    let done : AreCopied c.args.types.now c.loop-place.self.types xs cs = rw c.deref.ensures.value c.loop-place.invariant.copied in
    let each : p ≡ length cs = c.loop-place.invariant.each ∙ ap length (sym c.deref.ensures.value) in
    let l : p < length xs = omega (arith, c.loop-place-test.true) in
    let k : c.of.result.at ≡ get_or xs p 0 = ap (λ (id : TypeId). id.at) c.of.ensures in
    let r = is_ready c.args.types.now c.args.id.at xs p c.of.result.at c.node.result.now (form_of c.form-form.result.now) c.loop-place.self.types cs c.see_table.ensures.built c.requires.belongs c.requires.reached
    done each l k c.node.ensures.row c.node.ensures.tree c.node.ensures.merged c.form-form.ensures in
    within_more _ _ _ _ _ _ c.copy_node.ensures.adds.types c.loop-place.invariant.within c.copy_node.ensures.one r.same r.within

pub loop-place-preserved : goal.loop-place-preserved
loop-place-preserved c =
    let xs = c.args.reached.now in
    let p = c.loop-place.place in
    let i = c.loop-place.invariant in
    let new = c.copy_node.new.self.types in
    let id = c.in_ok-copy.copy in
    let a = c.in_ok-copy.ensures in
    let cs = c.deref.result.now in
    let done : AreCopied c.args.types.now c.loop-place.self.types xs cs = rw c.deref.ensures.value c.loop-place.invariant.copied in
    let each : p ≡ length cs = c.loop-place.invariant.each ∙ ap length (sym c.deref.ensures.value) in
    let l : p < length xs = omega (arith, c.loop-place-test.true) in
    let k : c.of.result.at ≡ get_or xs p 0 = ap (λ (id : TypeId). id.at) c.of.ensures in
    let r = is_ready c.args.types.now c.args.id.at xs p c.of.result.at c.node.result.now (form_of c.form-form.result.now) c.loop-place.self.types cs c.see_table.ensures.built c.requires.belongs c.requires.reached
    done each l k c.node.ensures.row c.node.ensures.tree c.node.ensures.merged c.form-form.ensures in
    record {
      copied = rw c.in_ok-push.ensures.items (copy_goes_on c.args.types.now xs p id c.loop-place.self.types new c.loop-place.copies.items i.copied c.copy_node.ensures.adds.types (subst (λ T. IsTypeAt new T id) r.same a.ok) i.each);
      each = (let n = length_push c.loop-place.copies.items id in let m = ap length c.in_ok-push.ensures.items in omega (arith, i.each));
      few = omega (arith, i.few, c.copy_node.ensures.one.one);
      ends = refl;
      adds = AddsTypes-trans _ _ _ i.adds c.copy_node.ensures.adds;
      same = c.copy_node.ensures.same ∙ i.same;
      within = within_more _ _ _ _ _ _ c.copy_node.ensures.adds.types i.within c.copy_node.ensures.one r.same r.within;
    }

pub returns-in_err-push-clause-within : goal.returns-in_err-push-clause-within
returns-in_err-push-clause-within c =
    let xs = c.args.reached.now in
    let p = c.loop-place.place in
    let cs = c.deref.result.now in
    let done : AreCopied c.args.types.now c.loop-place.self.types xs cs = rw c.deref.ensures.value c.loop-place.invariant.copied in
    let each : p ≡ length cs = c.loop-place.invariant.each ∙ ap length (sym c.deref.ensures.value) in
    let l : p < length xs = omega (arith, c.loop-place-test.true) in
    let k : c.of.result.at ≡ get_or xs p 0 = ap (λ (id : TypeId). id.at) c.of.ensures in
    let r = is_ready c.args.types.now c.args.id.at xs p c.of.result.at c.node.result.now (form_of c.form-form.result.now) c.loop-place.self.types cs c.see_table.ensures.built c.requires.belongs c.requires.reached
    done each l k c.node.ensures.row c.node.ensures.tree c.node.ensures.merged c.form-form.ensures in
    within_more _ _ _ _ _ _ c.copy_node.ensures.adds.types c.loop-place.invariant.within c.copy_node.ensures.one r.same r.within

pub returns-clause-ok : goal.returns-clause-ok
returns-clause-ok c =
    rw (c.copy_of.ensures, c.deref-2.ensures.value) (copy_ends c.args.types.now c.args.id.at c.args.reached.now c.loop-place.self.types c.loop-place.copies.items c.requires.reached c.loop-place.invariant.copied
    (omega (arith, c.loop-place-test.false, c.loop-place.invariant.each)))
