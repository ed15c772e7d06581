use Rattle.std.proofs.Common.{◌≡◌, arith, rules, true, false, [], ◌∷◌, ◌++◌, length, set, vec_len, ap, sym, subst, ◌∙◌, inl, inr}
use Rattle.std.proofs.lemmas.List.{length-append, get_or_read, nil_from_length}
use Rattle.xd_syntax.specs.Types.{form_of}
use Rattle.xd_syntax.specs.Table.{PartsBelow}
use Rattle.xd_syntax.specs.declared.types.TypeId.{TypeId}
use Rattle.xd_sound.specs.Emptiness.{IsMarking, form_marked}
use Rattle.xd_syntax.specs.Nodes.{form_at}
use Rattle.xd_sound.proofs.EmptyLemmas.{popped, visited, marked_more, unmarked_less, form_read, bodies_below, parts_up}
use Rattle.xd_sound.proofs.empty.spread.Goals as goal

pub returns : goal.returns
returns c =
    let v : vec_len c.loop-at.waiting ≡ length c.loop-at.waiting.items = search rules in
    let z = c.in_default.ensures.cases in
    let y : c.loop-at.waiting.items ≡ [] = nil_from_length c.loop-at.waiting.items (omega (arith, z.0)) in
    subst (λ x. IsMarking c.args.types.now c.args.defs.now c.loop-at.marks.items x) y c.loop-at.invariant

pub index-requires : goal.index-requires
index-requires c =
    let p = popped c.pop.new.self.items c.in-Some.at c.in-Some.ensures.items c.loop-at.invariant in
    let l = p.has_mark in
    let v : vec_len c.loop-at.marks ≡ length c.loop-at.marks.items = search rules in
    omega arith

pub loop-at-preserved-then-index : goal.loop-at-preserved-then-index
loop-at-preserved-then-index c =
    let p = popped c.pop.new.self.items c.in-Some.at c.in-Some.ensures.items c.loop-at.invariant in
    visited c.args.types.now c.args.defs.now c.loop-at.marks.items c.pop.new.self.items c.in-Some.at p.marking
    (inl (sym (get_or_read c.loop-at.marks.items c.in-Some.at c.index.result.now p.has_mark c.index.ensures false) ∙ c.if-index.true))

pub node-requires : goal.node-requires
node-requires c =
    let p = popped c.pop.new.self.items c.in-Some.at c.in-Some.ensures.items c.loop-at.invariant in
    let l = p.is_node in
    let k : c.of.result.at ≡ c.in-Some.at = ap (λ (x : TypeId). x.at) c.of.ensures in
    omega arith

pub form_is_marked-requires-clause-parts : goal.form_is_marked-requires-clause-parts
form_is_marked-requires-clause-parts c =
    let p = popped c.pop.new.self.items c.in-Some.at c.in-Some.ensures.items c.loop-at.invariant in
    let l = p.has_mark in
    let k : c.of.result.at ≡ c.in-Some.at = ap (λ (x : TypeId). x.at) c.of.ensures in
    let e = ap length c.deref.ensures.value in
    subst (λ x. PartsBelow (length c.deref.result.now) x) (sym c.form.ensures) (parts_up c.of.result.at (length c.deref.result.now) c.node.result.now.form c.node.ensures.parts (omega arith))

pub form_is_marked-requires-clause-bodies : goal.form_is_marked-requires-clause-bodies
form_is_marked-requires-clause-bodies c =
    let n = c.loop-at.invariant.count in
    let e = ap length c.deref.ensures.value in
    bodies_below c.args.types.now (length c.deref.result.now) (omega arith) c.args.defs.now c.requires.stand

pub index_mut-requires : goal.index_mut-requires
index_mut-requires c =
    let p = popped c.pop.new.self.items c.in-Some.at c.in-Some.ensures.items c.loop-at.invariant in
    let l = p.has_mark in
    let v : vec_len c.loop-at.marks ≡ length c.loop-at.marks.items = search rules in
    omega arith

pub successors-requires : goal.successors-requires
successors-requires c =
    let p = popped c.pop.new.self.items c.in-Some.at c.in-Some.ensures.items c.loop-at.invariant in
    let l = p.is_node in
    let d = c.requires.dependents.count in
    omega arith

pub loop-at-smaller-in-Continue-1 : goal.loop-at-smaller-in-Continue-1
loop-at-smaller-in-Continue-1 c =
    let marks = c.loop-at.marks.items in
    let w = c.pop.new.self.items in
    let at = c.in-Some.at in
    let l = (popped w at c.in-Some.ensures.items c.loop-at.invariant).has_mark in
    let v : vec_len c.loop-at.marks ≡ length marks = search rules in
    let u = unmarked_less marks at l (sym (get_or_read marks at c.index.result.now l c.index.ensures false) ∙ c.if-index.false) in
    let a = length-append w c.successors.result.now in
    let p = length-append w (at ∷ []) in
    let b = ap length c.in_ok-extend_from_slice.ensures.items in
    let e = ap length c.in-Some.ensures.items in
    let z : vec_len c.extend_from_slice.new.self ≡ length c.extend_from_slice.new.self.items = search rules in
    let s = c.extend_from_slice.new.self.small in
    omega arith

pub loop-at-preserved-in-Continue-1 : goal.loop-at-preserved-in-Continue-1
loop-at-preserved-in-Continue-1 c =
    let ts = c.args.types.now in
    let ds = c.args.defs.now in
    let marks = c.loop-at.marks.items in
    let w = c.pop.new.self.items in
    let at = c.in-Some.at in
    let p = popped w at c.in-Some.ensures.items c.loop-at.invariant in
    let f : form_of c.form.result.now ≡ form_at ts at = form_read ts c.of.result.at at c.node.result.now (form_of c.form.result.now) (ap (λ (x : TypeId). x.at) c.of.ensures) p.is_node c.node.ensures.row c.form.ensures in
    let q : c.form_is_marked.result ≡ form_marked marks ds (form_at ts at) = c.form_is_marked.ensures ∙ ap (λ xs. form_marked xs ds (form_of c.form.result.now)) c.deref.ensures.value ∙ ap (form_marked marks ds) f in
    let s = c.in_ok-extend_from_slice.ensures.items ∙ ap (λ x. w ++ x) c.successors.ensures.all in
    subst (λ x. IsMarking ts ds (set marks at true) x) (sym s)
    (marked_more ts ds c.args.dependents.now marks w at c.requires.built c.requires.dependents c.successors.ensures.closed p.marking p.is_node (sym q ∙ c.if-form_is_marked.true))

pub loop-at-preserved : goal.loop-at-preserved
loop-at-preserved c =
    let ts = c.args.types.now in
    let ds = c.args.defs.now in
    let marks = c.loop-at.marks.items in
    let at = c.in-Some.at in
    let p = popped c.pop.new.self.items at c.in-Some.ensures.items c.loop-at.invariant in
    let f : form_of c.form.result.now ≡ form_at ts at = form_read ts c.of.result.at at c.node.result.now (form_of c.form.result.now) (ap (λ (x : TypeId). x.at) c.of.ensures) p.is_node c.node.ensures.row c.form.ensures in
    let q : c.form_is_marked.result ≡ form_marked marks ds (form_at ts at) = c.form_is_marked.ensures ∙ ap (λ xs. form_marked xs ds (form_of c.form.result.now)) c.deref.ensures.value ∙ ap (form_marked marks ds) f in
    visited ts ds marks c.pop.new.self.items at p.marking (inr (sym q ∙ c.if-form_is_marked.false))
