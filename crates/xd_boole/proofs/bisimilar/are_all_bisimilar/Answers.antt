use Rattle.std.proofs.Common.{◌<◌, subst, sym, arith, rules}
use Rattle.xd_auto.specs.Automaton.{IsState, state_number}
use Rattle.xd_boole.proofs.MergeLemmas.{stand_in_there}
use Rattle.xd_boole.proofs.BisimilarLemmas.{bisimilar_more, bisimilar_stand}
use Rattle.xd_boole.proofs.bisimilar.are_all_bisimilar.Goals as goal

pub are_bisimilar-requires-clause-other : goal.are_bisimilar-requires-clause-other
are_bisimilar-requires-clause-other c =
    subst (IsState c.args.auto.now) (sym c.stand_in-other.ensures) (stand_in_there c.args.auto.now c.args.same.now c.state-one.result c.requires.states c.state-one.ensures.belongs)

pub loop-number-preserved : goal.loop-number-preserved
loop-number-preserved c =
    bisimilar_more c.args.auto.now c.args.same.now c.loop-number.number c.state-one.result c.stand_in-other.result c.state-one.ensures.number c.stand_in-other.ensures c.loop-number.invariant (c.are_bisimilar.ensures (search rules))

pub returns : goal.returns
returns c = λ e.
    bisimilar_stand c.args.auto.now c.args.same.now c.requires.count (λ s l. let m : state_number s < c.loop-number.number = omega arith in c.loop-number.invariant s m) c.requires.states
