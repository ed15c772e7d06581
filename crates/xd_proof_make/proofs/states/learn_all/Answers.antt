use Rattle.xd_heads.specs.Mirrors.{IsTypeState}
use Rattle.xd_heads.proofs.GrowsTypesLemmas.{grows_then}
use Rattle.xd_proof_make.proofs.IsMetLemmas.{all_get_by}
use Rattle.xd_proof_make.proofs.KeepsKnownLemmas.{mirrors_grow, keeps-then, learnt_more}
use Rattle.xd_proof_make.proofs.states.learn_all.Goals as goal

pub learn-requires-clause-mirrors : goal.learn-requires-clause-mirrors
learn-requires-clause-mirrors c = mirrors_grow c.args.sound.now c.loop-state.sound c.args.cells.now c.requires.mirrors c.loop-state.invariant.grows

pub learn-requires-clause-state : goal.learn-requires-clause-state
learn-requires-clause-state c = all_get_by (IsTypeState c.args.cells.now) c.args.wanted.now c.loop-state.state-index (record { number = 0 }) c.loop-state-test.true c.requires.state

pub loop-state-preserved : goal.loop-state-preserved
loop-state-preserved c = record {
  known = λ k. c.learn.ensures.known (c.loop-state.invariant.known k);
  has = learnt_more c.loop-state.states.items c.learn.new.states.items c.args.wanted.now c.loop-state.state-index (record { number = 0 }) c.loop-state-test.true c.learn.ensures.keeps c.loop-state.invariant.has c.in_ok-learn.ensures.has;
  keeps = keeps-then c.args.states.now.items c.loop-state.states.items c.learn.new.states.items c.loop-state.invariant.keeps c.learn.ensures.keeps;
  grows = grows_then c.args.sound.now c.loop-state.sound c.learn.new.sound c.loop-state.invariant.grows c.learn.ensures.grows;
}

pub returns-in_err-learn-clause-known : goal.returns-in_err-learn-clause-known
returns-in_err-learn-clause-known c = λ k. c.learn.ensures.known (c.loop-state.invariant.known k)

pub returns-in_err-learn-clause-grows : goal.returns-in_err-learn-clause-grows
returns-in_err-learn-clause-grows c = grows_then c.args.sound.now c.loop-state.sound c.learn.new.sound c.loop-state.invariant.grows c.learn.ensures.grows

pub returns-in_err-learn-clause-keeps : goal.returns-in_err-learn-clause-keeps
returns-in_err-learn-clause-keeps c = keeps-then c.args.states.now.items c.loop-state.states.items c.learn.new.states.items c.loop-state.invariant.keeps c.learn.ensures.keeps
