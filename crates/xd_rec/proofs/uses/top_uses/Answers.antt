use Rattle.std.proofs.Common.{◌≡◌, ◌+◌, arith, true, [], ◌∷◌, ◌++◌, length, get_or, take, reverse, ap, sym, subst, ◌∙◌}
use Rattle.std.proofs.lemmas.List.{take_more, take_all, length-take-le, append-nil}
use Rattle.xd_syntax.specs.declared.types.TypeDef.{TypeDef}
use Rattle.xd_syntax.proofs.Members.{append_left}
use Rattle.xd_rec.specs.Uses.{AllBelong, parts_uses, sizes, test_of}
use Rattle.xd_rec.specs.declared.uses.Part.{Part}
use Rattle.xd_sound.proofs.EmptyLemmas.{among_one}
use Rattle.xd_rec.proofs.UseLemmas.{definition_parts, definition_parts_more, definition_uses, definitions_belong, listed_uses, listed_belong, listed_less}
use Rattle.xd_rec.proofs.uses.top_uses.Goals as goal

pub loop-owner-preserved : goal.loop-owner-preserved
loop-owner-preserved c =
    let ds = c.args.defs.now in
    let n = c.loop-owner.owner in
    let d = c.index-defs-owner.result in
    let l = c.loop-owner-test.true in
    let z = length-take-le n ds (omega arith) in
    let e : 0 + length (take n ds) ≡ n = omega arith in
    record {
      listed =
          c.in_ok-push.ensures.items
          ∙ ap (λ x. c.loop-owner.parts.items ++ (let p : Part = record { owner = n; at = x; is_tail = true; is_front = true } in p ∷ [])) (c.at.ensures ∙ ap (λ (x : TypeDef). x.body.at) c.index-defs-owner.is)
          ∙ ap (λ ps. ps ++ (let p : Part = record { owner = n; at = (get_or ds n d).body.at; is_tail = true; is_front = true } in p ∷ [])) c.loop-owner.invariant.listed
          ∙ sym (ap (definition_parts 0) (take_more ds n d l) ∙ definition_parts_more 0 (take n ds) (get_or ds n d)
          ∙ ap (λ k. definition_parts 0 (take n ds) ++ (let p : Part = record { owner = k; at = (get_or ds n d).body.at; is_tail = true; is_front = true } in p ∷ [])) e);
    }

pub loop-part-init : goal.loop-part-init
loop-part-init c =
    let ds = c.args.defs.now in
    let ts = c.args.types.now in
    let t = c.loop-owner-test.false in
    let e : c.loop-owner.parts.items ≡ definition_parts 0 ds = c.loop-owner.invariant.listed ∙ ap (definition_parts 0) (take_all c.loop-owner.owner ds (omega arith)) in
    record {
      belong = subst (AllBelong ts) (sym e) (definitions_belong ts 0 ds c.requires.stand);
      listed = ap (λ us. parts_uses (test_of c.args.marks.now ds) ts c.loop-owner.parts.items ++ reverse us) c.new-uses.ensures.items
          ∙ append-nil (parts_uses (test_of c.args.marks.now ds) ts c.loop-owner.parts.items)
          ∙ ap (parts_uses (test_of c.args.marks.now ds) ts) e ∙ definition_uses (test_of c.args.marks.now ds) ts 0 ds;
    }

pub list_part-requires-clause-part : goal.list_part-requires-clause-part
list_part-requires-clause-part c =
    subst (AllBelong c.args.types.now) c.in-Some.ensures.items c.loop-part.invariant.belong c.in-Some.part (among_one c.in-Some.part c.pop.new.self.items)

pub loop-part-smaller : goal.loop-part-smaller
loop-part-smaller c =
    let h = listed_less (test_of c.args.marks.now c.args.defs.now) c.args.types.now c.in-Some.part c.pop.new.self.items c.list_part.new.parts.items c.loop-part.uses.items c.list_part.new.uses.items c.in_ok-list_part.ensures in
    let e = ap (sizes c.args.types.now) c.in-Some.ensures.items in
    omega arith

pub loop-part-preserved : goal.loop-part-preserved
loop-part-preserved c =
    let Z = test_of c.args.marks.now c.args.defs.now in
    let ts = c.args.types.now in
    let i = c.loop-part.invariant in
    let q = c.in-Some.part in
    let w = c.pop.new.self.items in
    let e = c.in-Some.ensures.items in
    let all : AllBelong ts (w ++ q ∷ []) = subst (AllBelong ts) e i.belong in
    record {
      belong = listed_belong Z ts q w c.list_part.new.parts.items c.loop-part.uses.items c.list_part.new.uses.items c.in_ok-list_part.ensures
          (λ p m. all p (append_left p w (q ∷ []) m)) (all q (among_one q w));
      listed = listed_uses Z ts q w c.list_part.new.parts.items c.loop-part.uses.items c.list_part.new.uses.items c.in_ok-list_part.ensures
          ∙ sym (ap (λ ps. parts_uses Z ts ps ++ reverse c.loop-part.uses.items) e) ∙ i.listed;
    }
