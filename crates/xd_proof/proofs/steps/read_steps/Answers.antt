use Rattle.std.proofs.Common.{◌-◌, arith}
use Rattle.xd_proof.proofs.StepLemmas.{way_turned, way_ends, way_full, two_more, few_after}
use Rattle.xd_proof.proofs.steps.read_steps.Goals as goal

pub loop-step-preserved : goal.loop-step-preserved
loop-step-preserved c =
    let i = c.loop-step.invariant in
    let s = c.in-Some.ensures in
    let e = c.wanted_after-wanted.ensures in
    record {
      way = way_turned _ _ _ _ _ _ _ i.way s.0 s.1 e c.in_ok-push.ensures.items;
      within = two_more _ _ _ _ i.within s.1;
      few = (let f = few_after c.in-Some.step (c.loop-step.wanted - 1) in let k = i.few in let p = s.0 in omega (arith, e, f, k, p));
    }

pub returns-then-wanted-gt0 : goal.returns-then-wanted-gt0
returns-then-wanted-gt0 c = let i = c.loop-step.invariant in way_ends _ _ _ _ i.way i.within c.in_default.ensures (λ z e. let k = c.if-wanted-gt0.true in omega (arith, z, k))

pub returns-then-at-words : goal.returns-then-at-words
returns-then-at-words c = let i = c.loop-step.invariant in way_ends _ _ _ _ i.way i.within c.in_default.ensures (λ z e. let k = c.if-at-words.true in omega (arith, e, k))

pub returns : goal.returns
returns c = let i = c.loop-step.invariant in way_full _ _ _ _ i.way (let k = c.if-wanted-gt0.false in omega (arith, k)) (let k = c.if-at-words.false in let w = i.within in omega (arith, k, w))
