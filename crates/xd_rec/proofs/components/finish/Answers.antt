use Rattle.std.proofs.Common.{arith, refl, inl}
use Rattle.xd_rec.proofs.DoneLemmas.{finish_more}
use Rattle.xd_rec.proofs.components.finish.Goals as goal

pub loop-place-init : goal.loop-place-init
loop-place-init c = record { count = refl; unseen_still = refl; closed = λ v p e a b. absurd (omega arith); kept = λ v h. refl }

pub loop-place-preserved : goal.loop-place-preserved
loop-place-preserved c =
    finish_more c.args.standing.now.items c.loop-place.standing.items c.args.path.now c.args.from c.loop-place.place c.args.number c.loop-place.invariant (omega arith) c.loop-place-test.true c.requires.stands c.requires.on_path

pub returns : goal.returns
returns c =
    let i = c.loop-place.invariant in
    let t = c.loop-place-test.false in
    record {
      count = i.count;
      unseen_still = i.unseen_still;
      closed = λ v p e a. (let l = (c.requires.on_path v p e).0 in i.closed v p e a (omega arith));
      kept = λ v h. i.kept v (λ p e. inl (h p e));
    }
