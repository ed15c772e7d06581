use Rattle.std.proofs.Common.{arith}
use Rattle.xd_given.proofs.UnionLemmas.{all_within}
use Rattle.xd_given.proofs.union.are_within.Goals as goal

pub returns : goal.returns
returns c e d h = all_within c.args.auto.now c.args.states.now c.args.other c.loop-state.state-index (omega arith) c.loop-state.invariant d h
